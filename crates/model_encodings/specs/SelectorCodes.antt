-- Codes by which models may hold requirements.
use Rattle.std.specs.Prelude.{ℕ, List, Bool, refl}
use Rattle.std.specs.Coded.{Coded, code_by, coded×, coded_bool, coded_list}
use Rattle.spec_api.specs.declared.selectors.Operator.{Operator}
use Rattle.spec_api.specs.declared.selectors.SelectableField.{SelectableField}
use Rattle.spec_api.specs.contracts.selectors.Operator as operator
use Rattle.spec_api.specs.contracts.selectors.SelectableField as field
use Rattle.model_encodings.specs.Codes.{coded_text}
use Rattle.spec_api.specs.SelectorFields.{FieldRequirement}
use Rattle.spec_api.specs.Selectors.{Requirement}

abbrev pub coded_requirement : Coded Requirement
coded_requirement =
    code_by (List ℕ × (Operator × List (List ℕ))) (coded× coded_text (coded× operator.the_row.coded (coded_list coded_text)))
    (λ r. (r.key, (r.operator, r.values))) (λ p. record { key = p.0; operator = p.1.0; values = p.1.1 }) (λ _. refl)

abbrev pub coded_requirements : Coded (List Requirement)
coded_requirements = coded_list coded_requirement

abbrev pub coded_field_requirement : Coded FieldRequirement
coded_field_requirement =
    code_by (SelectableField × (Bool × List ℕ)) (coded× field.the_row.coded (coded× coded_bool coded_text))
    (λ r. (r.field, (r.wanted, r.value))) (λ p. record { field = p.0; wanted = p.1.0; value = p.1.1 }) (λ _. refl)

abbrev pub coded_field_requirements : Coded (List FieldRequirement)
coded_field_requirements = coded_list coded_field_requirement
