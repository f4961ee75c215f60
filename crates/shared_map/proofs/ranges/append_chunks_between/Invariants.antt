use Rattle.std.proofs.Common.{◌≡◌, ◌++◌, drop, map}
use Rattle.shared_map.specs.Parts.{parts, joined}
use Rattle.shared_map.proofs.Spans.{span}
use Rattle.shared_map.proofs.ranges.append_chunks_between.Given as goal

-- what was appended and what is still to be appended is all
abbrev pub invariant-loop-chunk : goal.invariant-loop-chunk
invariant-loop-chunk g l =
    map (λ e. e.now) l.found.items ++ span g.K.Ord.cmp l.first l.past (joined (parts (drop l.chunk-index l.chunks))) ≡ map (λ e. e.now) l.initial.found.items ++ span g.K.Ord.cmp l.first l.past (joined (parts l.chunks))
