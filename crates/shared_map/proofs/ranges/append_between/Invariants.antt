use Rattle.std.proofs.Common.{◌≡◌, ◌++◌, drop, map}
use Rattle.shared_map.specs.Parts.{seen}
use Rattle.shared_map.proofs.Spans.{span}
use Rattle.shared_map.proofs.ranges.append_between.Given as goal

-- what was appended and what is still to be appended is all
abbrev pub invariant-loop-entry : goal.invariant-loop-entry
invariant-loop-entry g l =
    map (λ e. e.now) l.found.items ++ span g.K.Ord.cmp l.first l.past (seen (drop l.entry-index l.entries)) ≡ map (λ e. e.now) l.initial.found.items ++ span g.K.Ord.cmp l.first l.past (seen l.entries)
