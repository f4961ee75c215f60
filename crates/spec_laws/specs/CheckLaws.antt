-- Laws of defaults and checks.
use Rattle.std.specs.Prelude.{◌≡◌, ◌⊎◌, ◌≤◌, ℕ, List, true, None, Some, Ok, IfSome, codes}
use Rattle.serde_json.specs.Data.{Data}
use Rattle.spec_api.specs.declared.kinds.Kind.{Kind}
use Rattle.spec_api.specs.declared.kinds.Kind.TheVariants.{ReplicaSet, Deployment}
use Rattle.spec_api.specs.Checks.{create_fault, in_spec, update_fault}
use Rattle.spec_api.specs.Defaults.{defaulted}
use Rattle.spec_api.specs.Metadata.{labels_of, name}
use Rattle.spec_api.specs.Reading.{reading}
use Rattle.spec_api.specs.Selectors.{Requirement, meets_all}
use Rattle.spec_api.specs.SelectorValues.{selector_of_value}
use Rattle.spec_api.specs.NewObjects.{created, with_first_status}

abbrev pub HasTemplate : Kind → Type 0
HasTemplate k = (k ≡ ReplicaSet) ⊎ (k ≡ Deployment)

-- the labels of an object's template meet its selector
abbrev pub SelectsItsTemplate : Data → Type 0
SelectsItsTemplate d =
    (s t : Data) (rs : List Requirement) → in_spec (codes "selector") d ≡ Some s → in_spec (codes "template") d ≡ Some t → selector_of_value s ≡ Ok rs
    → meets_all rs (labels_of t) ≡ true

-- what is created selects its template
abbrev pub CreatedSelectTheirTemplates : Type 0
CreatedSelectTheirTemplates =
    (k : Kind) (made : List ℕ) (present : ℕ) (d : Data) → HasTemplate k → create_fault k made present d ≡ None → SelectsItsTemplate d

-- and so does what replaces it
abbrev pub UpdatedSelectTheirTemplates : Type 0
UpdatedSelectTheirTemplates =
    (k : Kind) (made : List ℕ) (present : ℕ) (stored d : Data) → HasTemplate k → update_fault k made present stored d ≡ None → SelectsItsTemplate d

-- an object that can be created under a name, its own if it has one, could be created again as it was stored, with what the server sets, whatever was written since
abbrev pub StoredPassAgain : Type 0
StoredPassAgain =
    (k : Kind) (under : List ℕ) (present later : ℕ) (r : ℕ) (namespace moment : List ℕ) (d : Data) → present ≤ later → IfSome (name d) (λ n. n ≡ under)
    → create_fault k under present (with_first_status k d) ≡ None → create_fault k under later (with_first_status k (created k r namespace under moment d)) ≡ None

-- a read object with its defaults reads as itself
abbrev pub DefaultsReadAgain : Type 0
DefaultsReadAgain = (k : Kind) (d : Data) → reading k d ≡ Ok d → reading k (defaulted k d) ≡ Ok (defaulted k d)
