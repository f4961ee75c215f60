use Rattle.std.proofs.Common.{◌≡◌, ℕ, ◌<◌, false, get_or}
use Rattle.spec_api.specs.SelectorTexts.{is_blank}
use Rattle.selector.proofs.cuts.cut_at_blank.Given as goal

abbrev pub invariant-loop-i : goal.invariant-loop-i
invariant-loop-i l = (k : ℕ) → k < l.i → (is_blank (get_or l.text k 0)) ≡ false
