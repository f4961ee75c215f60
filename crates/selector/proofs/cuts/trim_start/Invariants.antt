use Rattle.std.proofs.Common.{◌≡◌, length}
use Rattle.spec_api.specs.SelectorTexts.{without_first_blanks}
use Rattle.selector.proofs.cuts.trim_start.Given as goal

abbrev pub invariant-loop-rest : goal.invariant-loop-rest
invariant-loop-rest l = without_first_blanks l.text ≡ without_first_blanks l.rest

abbrev pub decreases-loop-rest : goal.decreases-loop-rest
decreases-loop-rest l = length l.rest
