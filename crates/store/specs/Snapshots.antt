-- What a view shows, and members that are gone past.
use Rattle.std.specs.Prelude.{◌≡◌, ◌∷◌, ◌++◌, List, Option, ℕ, refl}
use Rattle.std.specs.Coded.{Coded, code_by, coded×, coded_option}
use Rattle.serde_json.specs.Data.{Data}
use Rattle.spec_api.specs.History.{View, Entries}
use Rattle.spec_api.specs.Keys.{Key}
use Rattle.spec_api.specs.Selectors.{Requirement}
use Rattle.spec_api.specs.SelectorFields.{FieldRequirement}
use Rattle.spec_api.specs.declared.kinds.Kind.{Kind}
use Rattle.spec_api.specs.contracts.kinds.Kind as kind
use Rattle.model_encodings.specs.Codes.{coded_text}
use Rattle.model_encodings.specs.SelectorCodes.{coded_requirements, coded_field_requirements}
use Rattle.spec_server.specs.Codes.{coded_members}

-- a view, and members that it shows
pub record ViewMembers : Type 0 where
  pub view : View
  pub members : Entries

abbrev pub coded_view : Coded View
coded_view =
    code_by ((Kind × Option (List ℕ)) × (List Requirement × List FieldRequirement)) (coded× (coded× kind.the_row.coded (coded_option coded_text)) (coded× coded_requirements coded_field_requirements))
    (λ v. ((v.kind, v.namespace), (v.labels, v.fields))) (λ p. record { kind = p.0.0; namespace = p.0.1; labels = p.1.0; fields = p.1.1 }) (λ _. refl)

abbrev pub coded_view_members : Coded ViewMembers
coded_view_members = code_by (View × Entries) (coded× coded_view coded_members) (λ s. (s.view, s.members)) (λ p. record { view = p.0; members = p.1 }) (λ _. refl)

-- of members among which one has this key, those that follow it are left
abbrev pub LeavesAfter : Key → Entries → Entries → Type 0
LeavesAfter k old new = (before left : Entries) (d : Data) → old ≡ before ++ ((k, d) ∷ left) → new ≡ left
