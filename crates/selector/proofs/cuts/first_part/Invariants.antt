use Rattle.std.proofs.Common.{◌≡◌, take, drop}
use Rattle.spec_api.specs.SelectorTexts.{parts, parts_from}
use Rattle.selector.proofs.Parts.{put_before}
use Rattle.selector.proofs.cuts.first_part.Given as goal

abbrev pub invariant-loop-i : goal.invariant-loop-i
invariant-loop-i l = parts l.text ≡ put_before (take l.i l.text) (parts_from l.inside (drop l.i l.text))
