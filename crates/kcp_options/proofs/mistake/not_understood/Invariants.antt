use Rattle.std.proofs.Common.{◌≡◌, map, string_bytes, length}
use Rattle.kcp_options.specs.Mistakes.{not_understood}
use Rattle.kcp_options.proofs.mistake.not_understood.Given as goal

abbrev pub invariant-loop-rest : goal.invariant-loop-rest
invariant-loop-rest l = not_understood l.fn.settings (map string_bytes l.rest) ≡ not_understood l.fn.settings (map string_bytes l.fn.words)

abbrev pub decreases-loop-rest : goal.decreases-loop-rest
decreases-loop-rest l = length l.rest
