-- Requirements as the definitions see them, by the bytes of their texts, and what was read or refused.
use Rattle.std.specs.Prelude.{◌≡◌, ℕ, List, map, String, string_bytes, Option, option_map, None, Some, Result, Ok, Err}
use Rattle.std.specs.declared.alloc.Global.{Global}
use Rattle.std.specs.Borrow.{Bor}
use Rattle.serde_json.specs.Data.{Data, Members}
use Rattle.serde_json.specs.View.{view}
use Rattle.serde_json.specs.declared.value.Value.{Value}
use Rattle.spec_api.specs.SelectorFields as fields
use Rattle.spec_api.specs.SelectorTexts as texts
use Rattle.spec_api.specs.SelectorValues as values
use Rattle.spec_api.specs.Selectors as meaning
use Rattle.spec_api.specs.Values.{inner_of}
use Rattle.spec_api.specs.declared.selectors.Operator.{Operator}
use Rattle.selector.specs.declared.faults.SelectorFault.{SelectorFault}
use Rattle.selector.specs.declared.faults.SelectorFault.TheVariants as fault
use Rattle.selector.specs.declared.faults.PartFault.{PartFault}
use Rattle.selector.specs.declared.faults.PartFault.TheVariants.{Refused, NoMemory}
use Rattle.selector.specs.declared.fields.FieldRequirement.{FieldRequirement}
use Rattle.selector.specs.declared.labels.Requirement.{Requirement}

abbrev pub now : Bor (List ℕ) → List ℕ
now text = text.now

abbrev pub found_value : Option (Bor Value) → Option Data
found_value found = option_map (λ v. view v.now) found

-- the labels in the value of `metadata.labels`, where it is there
abbrev pub labels_in : Option (Bor Value) → Members
labels_in found = inner_of (found_value found)

abbrev pub texts_of : List (String Global) → List (List ℕ)
texts_of values = map (λ s. string_bytes s) values

abbrev pub requirement_of : Requirement → meaning.Requirement
requirement_of r = record { key = string_bytes r.key; operator = r.operator; values = texts_of r.values.items }

abbrev pub requirements_of : List Requirement → List meaning.Requirement
requirements_of rs = map requirement_of rs

abbrev pub field_requirement_of : FieldRequirement → fields.FieldRequirement
field_requirement_of r = record { field = r.field; wanted = r.wanted; value = r.value.items }

abbrev pub field_requirements_of : List FieldRequirement → List fields.FieldRequirement
field_requirements_of rs = map field_requirement_of rs

abbrev pub compared_by : Bor (List ℕ) × Operator × Bor (List ℕ) → texts.Comparison
compared_by (left, operator, right) = record { left = left.now; operator = operator; right = right.now }

-- the answer is what was meant, or says that nothing was, or that memory ran out
abbrev pub Reads : {A B : Type 0} → (A → B) → Result A PartFault → Option B → Type 0
Reads f (Ok a) meant = meant ≡ Some (f a)
Reads f (Err Refused) meant = meant ≡ None
Reads f (Err NoMemory) meant = Unit {0}

-- a text is refused as malformed where it says nothing, and else only for running out of memory
abbrev pub RefusesText : {B : Type 0} → Option B → SelectorFault → Type 0
RefusesText said fault.Malformed = said ≡ None
RefusesText said fault.Invalid = ⊥
RefusesText said fault.NoMemory = Unit {0}

-- a value is refused by its flaw, and else only for running out of memory
abbrev pub RefusesValue : {B : Type 0} → Result B values.Flaw → SelectorFault → Type 0
RefusesValue said fault.Malformed = said ≡ Err values.mistyped
RefusesValue said fault.Invalid = said ≡ Err values.unfit
RefusesValue said fault.NoMemory = Unit {0}
