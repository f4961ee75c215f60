use Rattle.std.proofs.Common.{◌≡◌, ◌+◌, length, drop}
use Rattle.shared_map.specs.Parts.{joined, parts}
use Rattle.shared_map.proofs.left.entries_of.Given as goal

-- what was counted and what is left are all
abbrev pub invariant-loop-chunk : goal.invariant-loop-chunk
invariant-loop-chunk g l = l.count + length (joined (parts (drop l.chunk-index l.chunks))) ≡ length (joined (parts l.chunks))
