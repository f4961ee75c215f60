use Rattle.std.proofs.Common.{◌≡◌, length, reverse}
use Rattle.spec_api.specs.SelectorTexts.{without_first_blanks}
use Rattle.selector.proofs.cuts.trim_end.Given as goal

abbrev pub invariant-loop-rest : goal.invariant-loop-rest
invariant-loop-rest l = reverse (without_first_blanks (reverse l.text)) ≡ reverse (without_first_blanks (reverse l.rest))

abbrev pub decreases-loop-rest : goal.decreases-loop-rest
decreases-loop-rest l = length l.rest
