use Rattle.std.proofs.Common.{◌≡◌, length}
use Rattle.std.specs.List.{slice_split}
use Rattle.spec_api.specs.SelectorFields.{field_requirement}
use Rattle.spec_api.specs.SelectorTexts.{is_comma}
use Rattle.spec_api.specs.Selectors.{each_read}
use Rattle.selector.specs.Reading.{onto_read}
use Rattle.selector.specs.Seen.{field_requirements_of}
use Rattle.selector.proofs.fields.field_requirements.Given as goal

abbrev pub invariant-loop-part : goal.invariant-loop-part
invariant-loop-part l =
    each_read field_requirement (slice_split is_comma l.text) ≡ onto_read (field_requirements_of l.found.items) (each_read field_requirement (slice_split is_comma l.rest))

abbrev pub decreases-loop-part : goal.decreases-loop-part
decreases-loop-part l = length l.rest
