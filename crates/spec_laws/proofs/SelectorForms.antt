-- Values that say given requirements are read as these.
use Rattle.std.proofs.Common.{◌≡◌, ℕ, List, [], ◌∷◌, true, false, cond, not, ◌&&◌, ◌||◌, Some, option_and_then, Ok, Err, ok_or, codes, is_some, refl, ap, ap₂, ◌∙◌}
use Rattle.std.specs.List.{list_all}
use Rattle.std.specs.Str.{is_utf8}
use Rattle.serde_json.specs.Data.{Data, string, array, object, Items, item, no_members, member}
use Rattle.serde_json.specs.Written.{has_float, items_have_float}
use Rattle.serde_json.proofs.OnLiterals.{serde_json_on_literals}
use Rattle.spec_api.proofs.Truths.{left_true, right_true}
use Rattle.spec_api.specs.declared.selectors.Operator.{Operator}
use Rattle.spec_api.specs.declared.selectors.Operator.TheVariants.{In, NotIn, Exists, DoesNotExist}
use Rattle.spec_api.specs.declared.schemas.Shape.TheVariants.{Object, Text}
use Rattle.spec_api.specs.declared.schemas.Schema.TheVariants.{Expression}
use Rattle.spec_api.specs.Labels.{is_label_key, is_label_value}
use Rattle.spec_api.specs.Reading.{fits, items_fit, tidied, tidied_items}
use Rattle.spec_laws.specs.SelectorForms.{is_sound, text_items, operator_name, expression_value, expression_items, selector_value, pair_value}
use Rattle.spec_api.specs.SelectorValues.{mistyped, operator_named, item_values, fitting, expression_requirement, expression_requirements, both, unfit, selector_of_value}
use Rattle.spec_api.specs.Selectors.{Requirement, label_key, label_value, each_read, put_first, requiring}

pub own-value : (v : List ℕ) → is_label_value v ≡ true → label_value v ≡ Some v
own-value v h = rw h refl

pub own-key : (k : List ℕ) → is_label_key k ≡ true → label_key k ≡ Some k
own-key k h = rw h refl

-- such a value is read as it stands: it has no fraction, its members have their types, and none of them is null
texts-whole : (vs : List (List ℕ)) → items_have_float (text_items vs) ≡ false
texts-whole [] = refl
texts-whole (v ∷ vs) = texts-whole vs

texts-fit : (vs : List (List ℕ)) → items_fit Text (text_items vs) ≡ true
texts-fit [] = refl
texts-fit (v ∷ vs) = texts-fit vs

texts-tidy : (vs : List (List ℕ)) → tidied_items Text (text_items vs) ≡ text_items vs
texts-tidy [] = refl
texts-tidy (v ∷ vs) = ap (item (string v)) (texts-tidy vs)

values-read : (vs : List (List ℕ)) → list_all is_label_value vs ≡ true → item_values (text_items vs) ≡ Some vs
values-read [] h = refl
values-read (v ∷ vs) h = ap₂ put_first (own-value v (left_true (is_label_value v) (list_all is_label_value vs) h)) (values-read vs (right_true (is_label_value v) (list_all is_label_value vs) h))

goes-with : (o : Operator) (vs : List (List ℕ)) → is_some (fitting o vs) ≡ true → fitting o vs ≡ Some vs
goes-with In [] h = cc
goes-with In (v ∷ vs) h = refl
goes-with NotIn [] h = cc
goes-with NotIn (v ∷ vs) h = refl
goes-with Exists [] h = refl
goes-with Exists (v ∷ vs) h = cc
goes-with DoesNotExist [] h = refl
goes-with DoesNotExist (v ∷ vs) h = cc

named : (o : Operator) → operator_named (operator_name o) ≡ Some o
unfolding serde_json_on_literals is_utf8
named In = refl
named NotIn = refl
named Exists = refl
named DoesNotExist = refl

parts-of : (r : Requirement) → expression_requirement (expression_value r) ≡ option_and_then (λ (o : Operator). requiring (label_key r.key) o (option_and_then (fitting o) (item_values (text_items r.values)))) (operator_named (operator_name r.operator))
unfolding serde_json_on_literals is_utf8
parts-of r = refl

one-whole : (r : Requirement) → has_float (expression_value r) ≡ (items_have_float (text_items r.values) || false)
unfolding serde_json_on_literals is_utf8
one-whole r = refl

one-fits : (r : Requirement) → fits (Object Expression) (expression_value r) ≡ (items_fit Text (text_items r.values) && true)
unfolding serde_json_on_literals is_utf8
one-fits r = refl

with_values : Requirement → Items → Data
with_values r ds = object (member (codes "key") (string r.key) (member (codes "operator") (string (operator_name r.operator)) (member (codes "values") (array ds) no_members)))

one-tidy : (r : Requirement) → tidied (Object Expression) (expression_value r) ≡ with_values r (tidied_items Text (text_items r.values))
unfolding serde_json_on_literals is_utf8 with_values
one-tidy r = refl

all-whole : (rs : List Requirement) → items_have_float (expression_items rs) ≡ false
all-whole [] = refl
all-whole (r ∷ rs) = ap₂ (λ u v. u || v) (one-whole r ∙ ap (λ u. u || false) (texts-whole r.values)) (all-whole rs)

all-fit : (rs : List Requirement) → items_fit (Object Expression) (expression_items rs) ≡ true
all-fit [] = refl
all-fit (r ∷ rs) = ap₂ (λ u v. u && v) (one-fits r ∙ ap (λ u. u && true) (texts-fit r.values)) (all-fit rs)

all-tidy : (rs : List Requirement) → tidied_items (Object Expression) (expression_items rs) ≡ expression_items rs
unfolding with_values
all-tidy [] = refl
all-tidy (r ∷ rs) = ap₂ item (one-tidy r ∙ ap (with_values r) (texts-tidy r.values)) (all-tidy rs)

-- of a value the parts that are read
value-parts : (rs : List Requirement) → selector_of_value (selector_value rs)
    ≡ cond (items_have_float (expression_items rs) || false || not (items_fit (Object Expression) (expression_items rs) && true)) (Err mistyped)
    (ok_or (both (Some []) (expression_requirements (tidied_items (Object Expression) (expression_items rs)))) unfit)
unfolding serde_json_on_literals is_utf8
value-parts rs = refl

pub expression-read : (r : Requirement) → is_sound r ≡ true → expression_requirement (expression_value r) ≡ Some r
expression-read r h =
    let kv = is_label_key r.key && list_all is_label_value r.values in
    let k = own-key r.key (left_true (is_label_key r.key) (list_all is_label_value r.values) (left_true kv (is_some (fitting r.operator r.values)) h)) in
    let vs = values-read r.values (right_true (is_label_key r.key) (list_all is_label_value r.values) (left_true kv (is_some (fitting r.operator r.values)) h)) in
    let f = goes-with r.operator r.values (right_true kv (is_some (fitting r.operator r.values)) h) in
    parts-of r ∙ ap (λ x. option_and_then (λ (o : Operator). requiring x o (option_and_then (fitting o) (item_values (text_items r.values)))) (operator_named (operator_name r.operator))) k
    ∙ ap₂ (λ f x. option_and_then (λ (o : Operator). requiring (Some r.key) o (option_and_then (fitting o) x)) f) (named r.operator) vs
    ∙ ap (requiring (Some r.key) r.operator) f

expressions-read : (rs : List Requirement) → list_all is_sound rs ≡ true → expression_requirements (expression_items rs) ≡ Some rs
expressions-read [] h = refl
expressions-read (r ∷ rs) h = ap₂ put_first (expression-read r (left_true (is_sound r) (list_all is_sound rs) h)) (expressions-read rs (right_true (is_sound r) (list_all is_sound rs) h))

value-says : (rs : List Requirement) → selector_of_value (selector_value rs) ≡ ok_or (both (Some []) (expression_requirements (expression_items rs))) unfit
value-says rs = value-parts rs ∙ rw (all-whole rs, all-fit rs, all-tidy rs) refl

pub value-read : (rs : List Requirement) → list_all is_sound rs ≡ true → selector_of_value (selector_value rs) ≡ Ok rs
value-read rs h = value-says rs ∙ ap (λ x. ok_or (both (Some []) x) unfit) (expressions-read rs h)

pair-says : (k v : List ℕ) → selector_of_value (pair_value k v) ≡ ok_or (both (put_first (requiring (label_key k) In (each_read label_value (v ∷ []))) (Some [])) (Some [])) unfit
unfolding serde_json_on_literals is_utf8
pair-says k v = refl

pub pair-read : (k v : List ℕ) → is_label_key k ≡ true → is_label_value v ≡ true → selector_of_value (pair_value k v) ≡ Ok (record { key = k; operator = In; values = v ∷ [] } ∷ [])
pair-read k v h g =
    pair-says k v ∙ ap₂ (λ x y. ok_or (both (put_first (requiring x In (put_first y (Some []))) (Some [])) (Some [])) unfit) (own-key k h) (own-value v g)
