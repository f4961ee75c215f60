use Rattle.std.proofs.Common.{◌≡◌, drop}
use Rattle.spec_api.specs.Selectors.{meets_all}
use Rattle.selector.specs.Seen.{requirements_of, labels_in}
use Rattle.selector.proofs.selectors.all_are_met.Given as goal

abbrev pub invariant-loop-requirement : goal.invariant-loop-requirement
invariant-loop-requirement l =
    meets_all (requirements_of l.requirements.items) (labels_in l.labels) ≡ meets_all (requirements_of (drop l.requirement-index l.requirements.items)) (labels_in l.labels)
