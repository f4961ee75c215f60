use Rattle.std.proofs.Common.{◌≡◌, map, string_bytes, length}
use Rattle.kcp_options.specs.Options.{value_after}
use Rattle.kcp_options.proofs.words.value_after.Given as goal

abbrev pub invariant-loop-rest : goal.invariant-loop-rest
invariant-loop-rest l = value_after l.fn.name (map string_bytes l.rest) ≡ value_after l.fn.name (map string_bytes l.fn.words)

abbrev pub decreases-loop-rest : goal.decreases-loop-rest
decreases-loop-rest l = length l.rest
