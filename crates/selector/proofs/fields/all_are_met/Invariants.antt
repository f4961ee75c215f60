use Rattle.std.proofs.Common.{◌≡◌, drop}
use Rattle.spec_api.specs.SelectorFields.{fields_meet}
use Rattle.selector.specs.Seen.{field_requirements_of}
use Rattle.selector.proofs.fields.all_are_met.Given as goal

abbrev pub invariant-loop-requirement : goal.invariant-loop-requirement
invariant-loop-requirement l =
    fields_meet (field_requirements_of l.requirements.items) l.name l.namespace
    ≡ fields_meet (field_requirements_of (drop l.requirement-index l.requirements.items)) l.name l.namespace
