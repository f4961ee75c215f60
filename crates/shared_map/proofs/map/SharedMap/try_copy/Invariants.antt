use Rattle.std.proofs.Common.{◌≡◌, ◌++◌, drop}
use Rattle.shared_map.specs.Parts.{parts}
use Rattle.shared_map.proofs.map.SharedMap.try_copy.Given as goal

-- what was copied and what is still to be copied is all
abbrev pub invariant-loop-chunk : goal.invariant-loop-chunk
invariant-loop-chunk g l = parts l.chunks.items ++ parts (drop l.chunk-index l.chunk-items) ≡ parts l.chunk-items
