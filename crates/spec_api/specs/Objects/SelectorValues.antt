-- The requirements of a value that selects by labels, as `spec.selector` does (Kubernetes API reference, LabelSelector).
use Rattle.std.specs.Prelude.{ℕ, ◌&&◌, ◌||◌, not, List, [], ◌∷◌, ◌++◌, Bool, true, false, codes, if◌then◌else◌, Option, None, Some, option_and_then, unwrap_or, ok_or, Result, Err}
use Rattle.std.specs.Map.{lookup}
use Rattle.std.specs.Str.{bytes_eq}
use Rattle.serde_json.specs.Data.{Data, Items, no_items, item, Members, no_members, member}
use Rattle.serde_json.specs.Find.{get, as_str, as_array}
use Rattle.serde_json.specs.Written.{has_float}
use Rattle.spec_api.specs.declared.schemas.Shape.{Shape}
use Rattle.spec_api.specs.declared.schemas.Shape.TheVariants.{Object}
use Rattle.spec_api.specs.declared.schemas.Schema.TheVariants.{Selector}
use Rattle.spec_api.specs.declared.selectors.Operator.{Operator}
use Rattle.spec_api.specs.declared.selectors.Operator.TheVariants.{In, NotIn, Exists, DoesNotExist}
use Rattle.spec_api.specs.Texts.Selectors.{Requirement, each_read, label_key, label_value, put_first, requiring}
use Rattle.spec_api.specs.Texts.Values.{inner_of}
use Rattle.spec_api.specs.Objects.Reading.{fits, tidied}

-- why a value selects nothing: a member has a wrong type, or a key, an operator or the values are not valid
pub data Flaw : Type 0 where
  mistyped : Flaw
  unfit : Flaw

-- ---- what is there

abbrev pub all_items : (Data → Bool) → Items → Bool
all_items test no_items = true
all_items test (item d ds) = test d && all_items test ds

-- the test of what is there
abbrev pub is_some_and : {A : Type 0} → (A → Bool) → Option A → Bool
is_some_and test None = false
is_some_and test (Some a) = test a

-- ---- requirements

-- a text; the empty one where none is
abbrev pub text_in : Option Data → List ℕ
text_in found = unwrap_or (option_and_then as_str found) []

-- the items of a list; none where none is
abbrev pub items_in : Option Data → Items
items_in found = unwrap_or (option_and_then as_array found) no_items

-- each pair of `matchLabels` is a requirement `In` with one value
abbrev pub label_requirements : Members → Option (List Requirement)
label_requirements no_members = Some []
label_requirements (member k d ms) =
    put_first (requiring (label_key k) In (each_read label_value (text_in (Some d) ∷ []))) (label_requirements ms)

abbrev pub operator_named : List ℕ → Option Operator
operator_named word =
    lookup (bytes_eq word) ((codes "In", In) ∷ (codes "NotIn", NotIn) ∷ (codes "Exists", Exists) ∷ (codes "DoesNotExist", DoesNotExist) ∷ [])

abbrev pub item_values : Items → Option (List (List ℕ))
item_values no_items = Some []
item_values (item d ds) = put_first (label_value (text_in (Some d))) (item_values ds)

-- values that an operator goes with: some for `In` and `NotIn`, none for the others
abbrev pub fitting : Operator → List (List ℕ) → Option (List (List ℕ))
fitting In (v ∷ vs) = Some (v ∷ vs)
fitting NotIn (v ∷ vs) = Some (v ∷ vs)
fitting Exists [] = Some []
fitting DoesNotExist [] = Some []
fitting operator values = None

-- one of `matchExpressions`
abbrev pub expression_requirement : Data → Option Requirement
expression_requirement d =
    option_and_then
    (λ operator. requiring (label_key (text_in (get (codes "key") d))) operator (option_and_then (fitting operator) (item_values (items_in (get (codes "values") d)))))
    (operator_named (text_in (get (codes "operator") d)))

abbrev pub expression_requirements : Items → Option (List Requirement)
expression_requirements no_items = Some []
expression_requirements (item d ds) = put_first (expression_requirement d) (expression_requirements ds)

abbrev pub both : {A : Type 0} → Option (List A) → Option (List A) → Option (List A)
both (Some as') (Some bs) = Some (as' ++ bs)
both as' bs = None

-- what a selector has to be
abbrev pub selector_shape : Shape
selector_shape = Object Selector

-- the requirements of a value without null members; an empty object has none
abbrev pub requirements_in : Data → Option (List Requirement)
requirements_in d = both (label_requirements (inner_of (get (codes "matchLabels") d))) (expression_requirements (items_in (get (codes "matchExpressions") d)))

-- a value is read as an object is: each number is whole, the known members have their types, and what is null counts as absent
abbrev pub selector_of_value : Data → Result (List Requirement) Flaw
selector_of_value d = if has_float d || not (fits selector_shape d) then Err mistyped else ok_or (requirements_in (tidied selector_shape d)) unfit
