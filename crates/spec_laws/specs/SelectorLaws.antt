-- Laws of selectors.
use Rattle.std.specs.Prelude.{◌≡◌, ◌⊎◌, ◌↔◌, ◌&&◌, ◌++◌, ℕ, List, [], ◌∷◌, true, false, None, Some, Ok, codes, option_map}
use Rattle.std.specs.List.{list_all}
use Rattle.serde_json.specs.Data.{Data, Members}
use Rattle.spec_api.specs.declared.selectors.Operator.TheVariants.{In, NotIn}
use Rattle.spec_api.specs.Labels.{label_at, is_label_key, is_label_value}
use Rattle.spec_laws.specs.SelectorForms.{is_sound, pair_value, selector_text, selector_value}
use Rattle.spec_api.specs.SelectorTexts.{selector_of_text}
use Rattle.spec_api.specs.SelectorValues.{selector_of_value}
use Rattle.spec_api.specs.Selectors.{Requirement, meets, meets_all}

-- an object without the key meets each `notin` and `!=` of it, whatever the values
abbrev pub ExclusionsNeedNoKey : Type 0
ExclusionsNeedNoKey =
    (k : List ℕ) (values : List (List ℕ)) (labels : Members) → label_at k labels ≡ None
    → meets (record { key = k; operator = NotIn; values = values }) labels ≡ true

-- and none of its `in` and `=`
abbrev pub InclusionsNeedTheKey : Type 0
InclusionsNeedTheKey =
    (k : List ℕ) (values : List (List ℕ)) (labels : Members) → label_at k labels ≡ None
    → meets (record { key = k; operator = In; values = values }) labels ≡ false

abbrev pub EmptyTextMatchesAll : Type 0
EmptyTextMatchesAll = (labels : Members) → option_map (λ (rs : List Requirement). meets_all rs labels) (selector_of_text []) ≡ Some true

-- labels meet all of two lists of requirements if they meet all of each: no requirement that is added matches more
abbrev pub EachMustHold : Type 0
EachMustHold = (rs ss : List Requirement) (labels : Members) → meets_all (rs ++ ss) labels ≡ (meets_all rs labels && meets_all ss labels)

abbrev pub IsSaid : Requirement → List Requirement → Type 0
IsSaid r [] = ⊥
IsSaid r (s ∷ rs) = (r ≡ s) ⊎ IsSaid r rs

-- a text and a value that say the same requirements, in whatever order and however often, match the same labels
abbrev pub OrderIsNoMatter : Type 0
OrderIsNoMatter =
    (t : List ℕ) (d : Data) (rs ss : List Requirement) (labels : Members) → selector_of_text t ≡ Some rs → selector_of_value d ≡ Ok ss
    → ((r : Requirement) → IsSaid r rs ↔ IsSaid r ss) → meets_all rs labels ≡ meets_all ss labels

-- the text of given requirements says these, and so does their value
abbrev pub TextsAndValuesAgree : Type 0
TextsAndValuesAgree = (rs : List Requirement) → list_all is_sound rs ≡ true → (selector_of_text (selector_text rs) ≡ Some rs) × (selector_of_value (selector_value rs) ≡ Ok rs)

-- `k=v` and `{"matchLabels":{k:v}}` say one requirement, for every key and value
abbrev pub PairsAreEqualities : Type 0
PairsAreEqualities =
    (k v : List ℕ) → is_label_key k ≡ true → is_label_value v ≡ true
    → let rs = record { key = k; operator = In; values = v ∷ [] } ∷ [] in (selector_of_text (k ++ (codes "=" ++ v)) ≡ Some rs) × (selector_of_value (pair_value k v) ≡ Ok rs)

-- what a text says, a value says too
abbrev pub EachTextHasAValue : Type 0
EachTextHasAValue = (t : List ℕ) (rs : List Requirement) → selector_of_text t ≡ Some rs → selector_of_value (selector_value rs) ≡ Ok rs

-- and the other way round
abbrev pub EachValueHasAText : Type 0
EachValueHasAText = (d : Data) (rs : List Requirement) → selector_of_value d ≡ Ok rs → selector_of_text (selector_text rs) ≡ Some rs
