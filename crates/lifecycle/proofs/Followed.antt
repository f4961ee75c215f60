-- Finalizers as a list grows, and those that are left.
use Rattle.std.proofs.Common.{◌≡◌, ℕ, ◌+◌, ◌<◌, ◌≤◌, List, [], ◌∷◌, ◌++◌, length, get_or, drop, Bool, true, false, cond, refl, sym, ap, ◌∙◌}
use Rattle.std.proofs.lemmas.List.{drop_more, drop_all}
use Rattle.serde_json.specs.Data.{Data, Items, no_items, item}
use Rattle.serde_json.specs.View.{view, items_view}
use Rattle.serde_json.specs.Written.{has_float, items_have_float}
use Rattle.serde_json.specs.declared.value.Value.{Value}
use Rattle.spec_api.proofs.Truths.{left_false, right_false}
use Rattle.spec_api.specs.declared.policies.Policy.{Policy}
use Rattle.spec_api.specs.declared.policies.Policy.TheVariants.{Orphan, Foreground, Background}
use Rattle.spec_api.specs.Deletion.{is_of_policy, of_policy, others_then}
use Rattle.spec_api.proofs.NoFloatsRead.{both_false}
use Rattle.lifecycle.specs.Finalizers.{followed}

pub followed-none : (ds : Items) → followed ds no_items ≡ ds
followed-none no_items = refl
followed-none (item d ds) = ap (item d) (followed-none ds)

-- one more at the end
pub followed-push : (vs : List Value) (v : Value) (last : Items) → followed (items_view (vs ++ v ∷ [])) last ≡ followed (items_view vs) (item (view v) last)
followed-push [] v last = refl
followed-push (w ∷ vs) v last = ap (item (view w)) (followed-push vs v last)

pub items_view-push : (vs : List Value) (v : Value) → items_view (vs ++ v ∷ []) ≡ followed (items_view vs) (item (view v) no_items)
items_view-push vs v = sym (followed-none (items_view (vs ++ v ∷ []))) ∙ followed-push vs v no_items

followed_at : (b : Bool) (d : Data) (left last all : Items) → followed left last ≡ all → followed (cond b left (item d left)) last ≡ cond b all (item d all)
followed_at true d left last all is = is
followed_at false d left last all is = ap (item d) is

pub followed-others_then : (last ds : Items) → followed (others_then no_items ds) last ≡ others_then last ds
followed-others_then last no_items = refl
followed-others_then last (item d ds) = followed_at (is_of_policy d) d (others_then no_items ds) last (others_then last ds) (followed-others_then last ds)

-- ---- no float

unless_of_policy : (b : Bool) (d : Data) (left : Items) → has_float d ≡ false → items_have_float left ≡ false → items_have_float (cond b left (item d left)) ≡ false
unless_of_policy true d left p q = q
unless_of_policy false d left p q = both_false _ _ p q

pub others_then-no_float : (last ds : Items) → items_have_float last ≡ false → items_have_float ds ≡ false → items_have_float (others_then last ds) ≡ false
others_then-no_float last no_items p q = p
others_then-no_float last (item d ds) p q =
    unless_of_policy (is_of_policy d) d (others_then last ds) (left_false (has_float d) _ q) (others_then-no_float last ds p (right_false (has_float d) _ q))

pub of_policy-no_float : (p : Policy) → items_have_float (of_policy p) ≡ false
of_policy-no_float Orphan = refl
of_policy-no_float Foreground = refl
of_policy-no_float Background = refl

-- ---- as a loop goes on

next_at : (all : List Value) (i : ℕ) (d : Value) → i < length all → items_view (drop i all) ≡ item (view (get_or all i d)) (items_view (drop (i + 1) all))
next_at all i d h = ap items_view (drop_more all i d h)

pub copied-next : (all done now : List Value) (i : ℕ) (d v : Value) (whole : Items) → i < length all → now ≡ done ++ v ∷ [] → view v ≡ view (get_or all i d)
    → followed (items_view done) (items_view (drop i all)) ≡ whole → followed (items_view now) (items_view (drop (i + 1) all)) ≡ whole
copied-next all done now i d v whole h is same before =
    ap (λ (vs : List Value). followed (items_view vs) (items_view (drop (i + 1) all))) is ∙ followed-push done v (items_view (drop (i + 1) all))
    ∙ ap (λ e. followed (items_view done) (item e (items_view (drop (i + 1) all)))) same ∙ ap (followed (items_view done)) (sym (next_at all i d h)) ∙ before

pub copied-end : (all done : List Value) (i : ℕ) (whole : Items) → length all ≤ i → followed (items_view done) (items_view (drop i all)) ≡ whole → items_view done ≡ whole
copied-end all done i whole h before =
    sym (followed-none (items_view done)) ∙ ap (λ (vs : List Value). followed (items_view done) (items_view vs)) (sym (drop_all i all h)) ∙ before

taken : (b : Bool) (x y : Items) → b ≡ true → cond b x y ≡ x
taken true x y h = refl
taken false x y h = cc

not_taken : (b : Bool) (x y : Items) → b ≡ false → cond b x y ≡ y
not_taken true x y h = cc
not_taken false x y h = refl

-- what is left of the rest
abbrev pub rest_at : List Value → ℕ → Items
rest_at all i = others_then no_items (items_view (drop i all))

rest-next : (all : List Value) (i : ℕ) (d : Value) → i < length all
    → rest_at all i ≡ cond (is_of_policy (view (get_or all i d))) (rest_at all (i + 1)) (item (view (get_or all i d)) (rest_at all (i + 1)))
rest-next all i d h = ap (others_then no_items) (next_at all i d h)

-- one that is of a policy is left out
pub others-left_out : (all done now : List Value) (i : ℕ) (d : Value) (whole : Items) → i < length all → now ≡ done → is_of_policy (view (get_or all i d)) ≡ true
    → followed (items_view done) (rest_at all i) ≡ whole → followed (items_view now) (rest_at all (i + 1)) ≡ whole
others-left_out all done now i d whole h is of before =
    ap (λ (vs : List Value). followed (items_view vs) (rest_at all (i + 1))) is
    ∙ ap (followed (items_view done)) (sym (rest-next all i d h ∙ taken (is_of_policy (view (get_or all i d))) (rest_at all (i + 1)) (item (view (get_or all i d)) (rest_at all (i + 1))) of)) ∙ before

-- another stays
pub others-next : (all done now : List Value) (i : ℕ) (d v : Value) (whole : Items) → i < length all → now ≡ done ++ v ∷ [] → view v ≡ view (get_or all i d) → is_of_policy (view (get_or all i d)) ≡ false
    → followed (items_view done) (rest_at all i) ≡ whole → followed (items_view now) (rest_at all (i + 1)) ≡ whole
others-next all done now i d v whole h is same of before =
    ap (λ (vs : List Value). followed (items_view vs) (rest_at all (i + 1))) is ∙ followed-push done v (rest_at all (i + 1))
    ∙ ap (λ e. followed (items_view done) (item e (rest_at all (i + 1)))) same
    ∙ ap (followed (items_view done)) (sym (rest-next all i d h ∙ not_taken (is_of_policy (view (get_or all i d))) (rest_at all (i + 1)) (item (view (get_or all i d)) (rest_at all (i + 1))) of)) ∙ before

pub others-end : (all done : List Value) (i : ℕ) (whole : Items) → length all ≤ i → followed (items_view done) (rest_at all i) ≡ whole → items_view done ≡ whole
others-end all done i whole h before =
    sym (followed-none (items_view done)) ∙ ap (λ (vs : List Value). followed (items_view done) (others_then no_items (items_view vs))) (sym (drop_all i all h)) ∙ before
