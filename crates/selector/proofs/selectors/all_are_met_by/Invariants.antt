use Rattle.std.proofs.Common.{◌≡◌, drop}
use Rattle.spec_api.specs.Metadata.{labels_of}
use Rattle.spec_api.specs.Selectors.{meets_all}
use Rattle.selector.specs.Seen.{requirements_of}
use Rattle.selector.proofs.selectors.all_are_met_by.Given as goal

abbrev pub invariant-loop-requirement : goal.invariant-loop-requirement
invariant-loop-requirement l =
    meets_all (requirements_of l.requirements.items) (labels_of l.object.value) ≡ meets_all (requirements_of (drop l.requirement-index l.requirements.items)) (labels_of l.object.value)
