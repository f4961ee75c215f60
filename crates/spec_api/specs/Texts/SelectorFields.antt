-- What a selector of fields asks for, and what its text says (Kubernetes, Field Selectors).
use Rattle.std.specs.Prelude.{ℕ, ◌&&◌, List, [], ◌∷◌, Bool, true, false, not, codes, if◌then◌else◌, Option, None, Some, option_map}
use Rattle.std.specs.List.{list_all, list_any, slice_split}
use Rattle.std.specs.Str.{bytes_eq}
use Rattle.spec_api.specs.declared.selectors.Operator.{Operator}
use Rattle.spec_api.specs.declared.selectors.Operator.TheVariants.{In}
use Rattle.spec_api.specs.declared.selectors.SelectableField.{SelectableField}
use Rattle.spec_api.specs.declared.selectors.SelectableField.TheVariants.{Name, Namespace}
use Rattle.spec_api.specs.Texts.SelectorTexts.{Comparison, comparison, is_blank, is_comma, is_equals}
use Rattle.spec_api.specs.Texts.Selectors.{each_read, only_if}

-- one requirement of a field
pub record FieldRequirement : Type 0 where
  pub field : SelectableField
  pub wanted : Bool
  pub value : List ℕ

abbrev pub field_named : List ℕ → Option SelectableField
field_named t = if bytes_eq t (codes "metadata.name") then Some Name else only_if (bytes_eq t (codes "metadata.namespace")) Namespace

abbrev pub is_wanted : Operator → Bool
is_wanted In = true
is_wanted operator = false

abbrev pub field_compared : Comparison → Option FieldRequirement
field_compared c = option_map (λ (f : SelectableField). record { field = f; wanted = is_wanted c.operator; value = c.right }) (field_named c.left)

-- a field, `=`, `==` or `!=`, and a value, with no blank in it
abbrev pub field_requirement : List ℕ → Option FieldRequirement
field_requirement t = if list_any is_equals t && not (list_any is_blank t) then field_compared (comparison t) else None

-- what a field selector's text says; the empty text says nothing
abbrev pub fields_of_text : List ℕ → Option (List FieldRequirement)
fields_of_text [] = Some []
fields_of_text (b ∷ t) = each_read field_requirement (slice_split is_comma (b ∷ t))

abbrev pub field_of : SelectableField → List ℕ → List ℕ → List ℕ
field_of Name name namespace = name
field_of Namespace name namespace = namespace

abbrev pub field_meets : FieldRequirement → List ℕ → List ℕ → Bool
field_meets r name namespace = let same = bytes_eq r.value (field_of r.field name namespace) in if r.wanted then same else not same

abbrev pub fields_meet : List FieldRequirement → List ℕ → List ℕ → Bool
fields_meet rs name namespace = list_all (λ r. field_meets r name namespace) rs
