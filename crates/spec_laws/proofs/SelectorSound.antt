-- What a text or a value says is sound.
use Rattle.std.proofs.Common.{◌≡◌, ℕ, List, [], ◌∷◌, Bool, true, false, ◌&&◌, Option, None, Some, is_some, option_and_then, length, ◌==◌, Result, Ok, Err, ok_or, codes, if◌then◌else◌, refl, ◌∙◌, subst, ◌||◌, not}
use Rattle.std.specs.List.{list_all, list_any, before_first, after_first, slice_split, onto_first}
use Rattle.std.specs.Str.{bytes_eq}
use Rattle.std.proofs.lemmas.List.Folds.{list_all-append}
use Rattle.serde_json.specs.Data.{Data, Items, no_items, item, Members, no_members, member}
use Rattle.serde_json.specs.Find.{get}
use Rattle.serde_json.specs.Written.{has_float}
use Rattle.spec_api.proofs.Truths.{and_true}
use Rattle.spec_api.specs.Reading.{fits, tidied}
use Rattle.spec_api.specs.declared.selectors.Operator.{Operator}
use Rattle.spec_api.specs.declared.selectors.Operator.TheVariants.{In, NotIn, Exists, DoesNotExist}
use Rattle.spec_api.specs.Labels.{is_label_key, is_label_value}
use Rattle.spec_laws.specs.SelectorForms.{is_sound}
use Rattle.spec_api.specs.SelectorTexts.{is_blank, is_comma, is_equals, is_opening, trimmed, without_equals, parts, before_last, compared, comparison, compared_requirement, set_operator, value_in, listed_values, in_requirement, plain_requirement, unblanked_requirement, requirement, selector_of_text}
use Rattle.spec_api.specs.SelectorValues.{Flaw, mistyped, unfit, selector_shape, requirements_in, text_in, items_in, label_requirements, operator_named, item_values, fitting, expression_requirement, expression_requirements, both, selector_of_value}
use Rattle.spec_api.specs.Values.{inner_of}
use Rattle.spec_api.specs.Selectors.{Requirement, label_key, label_value, each_read, only_if, put_first, requiring}

abbrev IsSoundOr : Option Requirement → Type 0
IsSoundOr None = Unit {0}
IsSoundOr (Some r) = is_sound r ≡ true

-- values that go with an operator
abbrev Fit : Operator → Option (List (List ℕ)) → Type 0
Fit o None = Unit {0}
Fit o (Some vs) = (list_all is_label_value vs ≡ true) × (is_some (fitting o vs) ≡ true)

required : (k : List ℕ) (o : Operator) (vs : Option (List (List ℕ))) → Fit o vs → IsSoundOr (requiring (label_key k) o vs)
required k o vs f = by (is_label_key k) vs f refl
  where
    by : (b : Bool) (vs : Option (List (List ℕ))) → Fit o vs → is_label_key k ≡ b → IsSoundOr (requiring (label_key k) o vs)
    by false vs f e = rw e tt
    by true None f e = rw e tt
    by true (Some vs) f e = rw e (and_true (is_label_key k && list_all is_label_value vs) (is_some (fitting o vs)) (and_true (is_label_key k) (list_all is_label_value vs) e f.0) f.1)

-- one value, or more
abbrev Valued : Option (List (List ℕ)) → Type 0
Valued None = Unit {0}
Valued (Some []) = ⊥
Valued (Some (v ∷ vs)) = list_all is_label_value (v ∷ vs) ≡ true

fit-in : (vs : Option (List (List ℕ))) → Valued vs → Fit In vs
fit-in None h = tt
fit-in (Some []) h = absurd h
fit-in (Some (v ∷ vs)) h = (h, refl)

fit-notin : (vs : Option (List (List ℕ))) → Valued vs → Fit NotIn vs
fit-notin None h = tt
fit-notin (Some []) h = absurd h
fit-notin (Some (v ∷ vs)) h = (h, refl)

-- a list of values as far as it is read
abbrev AllValued : Option (List (List ℕ)) → Type 0
AllValued None = Unit {0}
AllValued (Some vs) = list_all is_label_value vs ≡ true

valued-first : (t : List ℕ) (rest : Option (List (List ℕ))) → AllValued rest → Valued (put_first (label_value t) rest)
valued-first t rest h = by (is_label_value t) rest h refl
  where
    by : (b : Bool) (rest : Option (List (List ℕ))) → AllValued rest → is_label_value t ≡ b → Valued (put_first (label_value t) rest)
    by false rest h e = rw e tt
    by true None h e = rw e tt
    by true (Some vs) h e = rw e (and_true (is_label_value t) (list_all is_label_value vs) e h)

weaker : (vs : Option (List (List ℕ))) → Valued vs → AllValued vs
weaker None h = tt
weaker (Some []) h = refl
weaker (Some (v ∷ vs)) h = h

all-valued : (ts : List (List ℕ)) → AllValued (each_read value_in ts)
all-valued [] = refl
all-valued (t ∷ ts) = weaker (put_first (value_in t) (each_read value_in ts)) (valued-first (trimmed t) (each_read value_in ts) (all-valued ts))

split-some : (t : List ℕ) → Valued (each_read value_in (slice_split is_comma t))
split-some t = by (slice_split is_comma t) (some t)
  where
    Some-parts : List (List ℕ) → Type 0
    Some-parts [] = ⊥
    Some-parts (p ∷ ps) = Unit {0}

    some : (t : List ℕ) → Some-parts (slice_split is_comma t)
    some [] = tt
    some (b ∷ t) = here (is_comma b) refl
      where
        onto : (ps : List (List ℕ)) → Some-parts (onto_first b ps)
        onto [] = tt
        onto (p ∷ ps) = tt

        here : (v : Bool) → is_comma b ≡ v → Some-parts (slice_split is_comma (b ∷ t))
        here true e = rw e tt
        here false e = rw e (onto (slice_split is_comma t))

    by : (ps : List (List ℕ)) → Some-parts ps → Valued (each_read value_in ps)
    by [] h = absurd h
    by (p ∷ ps) h = valued-first (trimmed p) (each_read value_in ps) (all-valued ps)

listed-valued : (t : List ℕ) → Valued (listed_values t)
listed-valued t = by (length (trimmed t) == 0) refl
  where
    by : (b : Bool) → (length (trimmed t) == 0) ≡ b → Valued (listed_values t)
    by true e = rw e tt
    by false e = rw e (split-some t)

between-valued : (found : Option (List ℕ)) → Valued (option_and_then listed_values found)
between-valued None = tt
between-valued (Some t) = listed-valued t

set-sound : (k w : List ℕ) (vs : Option (List (List ℕ))) → Valued vs → IsSoundOr (option_and_then (λ (o : Operator). requiring (label_key k) o vs) (set_operator w))
set-sound k w vs h = by (bytes_eq w (codes "in")) (bytes_eq w (codes "notin"))
  where
    by : (b c : Bool) → IsSoundOr (option_and_then (λ (o : Operator). requiring (label_key k) o vs) (if b then Some In else only_if c NotIn))
    by true c = required k In vs (fit-in vs h)
    by false true = required k NotIn vs (fit-notin vs h)
    by false false = tt

single-valued : (t : List ℕ) → Valued (each_read label_value (t ∷ []))
single-valued t = valued-first t (Some []) refl

comparison-sound : (found : Option (List ℕ)) (left right : List ℕ) → IsSoundOr (compared_requirement (compared found left right))
comparison-sound None left right = required (trimmed left) In (each_read label_value (trimmed (without_equals right) ∷ [])) (fit-in (each_read label_value (trimmed (without_equals right) ∷ [])) (single-valued (trimmed (without_equals right))))
comparison-sound (Some k) left right = required (trimmed k) NotIn (each_read label_value (trimmed right ∷ [])) (fit-notin (each_read label_value (trimmed right ∷ [])) (single-valued (trimmed right)))

plain-sound : (t : List ℕ) → IsSoundOr (plain_requirement t)
plain-sound t = by (list_any is_opening t) (list_any is_equals t)
  where
    by : (b c : Bool) → IsSoundOr (if b then in_requirement (before_first is_opening t) (after_first is_opening t) else (if c then compared_requirement (comparison t) else requiring (label_key t) Exists (Some [])))
    by true c = set-sound (before_first is_blank (before_first is_opening t)) (trimmed (after_first is_blank (before_first is_opening t))) (option_and_then listed_values (before_last 41 (after_first is_opening t))) (between-valued (before_last 41 (after_first is_opening t)))
    by false true = comparison-sound (before_last 33 (before_first is_equals t)) (before_first is_equals t) (after_first is_equals t)
    by false false = required t Exists (Some []) (refl, refl)

unblanked-sound : (t : List ℕ) → IsSoundOr (unblanked_requirement t)
unblanked-sound [] = tt
unblanked-sound (b ∷ t) = by (b == 33)
  where
    by : (v : Bool) → IsSoundOr (if v then requiring (label_key (trimmed t)) DoesNotExist (Some []) else plain_requirement (b ∷ t))
    by true = required (trimmed t) DoesNotExist (Some []) (refl, refl)
    by false = plain-sound (b ∷ t)

-- all requirements, where they are read
abbrev pub AreSoundOr : Option (List Requirement) → Type 0
AreSoundOr None = Unit {0}
AreSoundOr (Some rs) = list_all is_sound rs ≡ true

put-sound : (r : Option Requirement) (rs : Option (List Requirement)) → IsSoundOr r → AreSoundOr rs → AreSoundOr (put_first r rs)
put-sound None rs h g = tt
put-sound (Some r) None h g = tt
put-sound (Some r) (Some rs) h g = and_true (is_sound r) (list_all is_sound rs) h g

each-sound : (ts : List (List ℕ)) → AreSoundOr (each_read requirement ts)
each-sound [] = refl
each-sound (t ∷ ts) = put-sound (requirement t) (each_read requirement ts) (unblanked-sound (trimmed t)) (each-sound ts)

pub text-sound : (t : List ℕ) → AreSoundOr (selector_of_text t)
text-sound [] = refl
text-sound (b ∷ t) = each-sound (parts (b ∷ t))

-- ---- values

pairs-sound : (ms : Members) → AreSoundOr (label_requirements ms)
pairs-sound no_members = refl
pairs-sound (member k d ms) =
    put-sound (requiring (label_key k) In (each_read label_value (text_in (Some d) ∷ []))) (label_requirements ms)
    (required k In (each_read label_value (text_in (Some d) ∷ [])) (fit-in (each_read label_value (text_in (Some d) ∷ [])) (single-valued (text_in (Some d))))) (pairs-sound ms)

items-valued : (ds : Items) → AllValued (item_values ds)
items-valued no_items = refl
items-valued (item d ds) = weaker (put_first (label_value (text_in (Some d))) (item_values ds)) (valued-first (text_in (Some d)) (item_values ds) (items-valued ds))

fitted : (o : Operator) (vs : Option (List (List ℕ))) → AllValued vs → Fit o (option_and_then (fitting o) vs)
fitted o None h = tt
fitted In (Some []) h = tt
fitted In (Some (v ∷ vs)) h = (h, refl)
fitted NotIn (Some []) h = tt
fitted NotIn (Some (v ∷ vs)) h = (h, refl)
fitted Exists (Some []) h = (refl, refl)
fitted Exists (Some (v ∷ vs)) h = tt
fitted DoesNotExist (Some []) h = (refl, refl)
fitted DoesNotExist (Some (v ∷ vs)) h = tt

operated-sound : (k : List ℕ) (o : Option Operator) (vs : Option (List (List ℕ))) → AllValued vs → IsSoundOr (option_and_then (λ (p : Operator). requiring (label_key k) p (option_and_then (fitting p) vs)) o)
operated-sound k None vs h = tt
operated-sound k (Some o) vs h = required k o (option_and_then (fitting o) vs) (fitted o vs h)

expressions-sound : (ds : Items) → AreSoundOr (expression_requirements ds)
expressions-sound no_items = refl
expressions-sound (item d ds) =
    put-sound (expression_requirement d) (expression_requirements ds)
    (operated-sound (text_in (get (codes "key") d)) (operator_named (text_in (get (codes "operator") d))) (item_values (items_in (get (codes "values") d))) (items-valued (items_in (get (codes "values") d))))
    (expressions-sound ds)

both-sound : (rs ss : Option (List Requirement)) → AreSoundOr rs → AreSoundOr ss → AreSoundOr (both rs ss)
both-sound None ss h g = tt
both-sound (Some rs) None h g = tt
both-sound (Some rs) (Some ss) h g = list_all-append is_sound rs ss ∙ and_true (list_all is_sound rs) (list_all is_sound ss) h g

abbrev AreSoundOk : Result (List Requirement) Flaw → Type 0
AreSoundOk (Ok rs) = list_all is_sound rs ≡ true
AreSoundOk (Err e) = Unit {0}

unfit-or : (rs : Option (List Requirement)) → AreSoundOr rs → AreSoundOk (ok_or rs unfit)
unfit-or None h = tt
unfit-or (Some rs) h = h

members-ok : (d : Data) → AreSoundOk (ok_or (requirements_in d) unfit)
members-ok d =
    let pairs = label_requirements (inner_of (get (codes "matchLabels") d)) in
    let others = expression_requirements (items_in (get (codes "matchExpressions") d)) in
    unfit-or (both pairs others) (both-sound pairs others (pairs-sound (inner_of (get (codes "matchLabels") d))) (expressions-sound (items_in (get (codes "matchExpressions") d))))

value-ok : (d : Data) → AreSoundOk (selector_of_value d)
value-ok d = by (has_float d || not (fits selector_shape d))
  where
    by : (b : Bool) → AreSoundOk (if b then Err mistyped else ok_or (requirements_in (tidied selector_shape d)) unfit)
    by true = tt
    by false = members-ok (tidied selector_shape d)

pub said-sound : (t : List ℕ) (rs : List Requirement) → selector_of_text t ≡ Some rs → list_all is_sound rs ≡ true
said-sound t rs h = subst AreSoundOr h (text-sound t)

pub existing-sound : (d : Data) (rs : List Requirement) → selector_of_value d ≡ Ok rs → list_all is_sound rs ≡ true
existing-sound d rs h = subst AreSoundOk h (value-ok d)
