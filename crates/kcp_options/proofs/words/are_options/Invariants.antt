use Rattle.std.proofs.Common.{◌≡◌, map, string_bytes, length}
use Rattle.kcp_options.specs.Options.{are_options}
use Rattle.kcp_options.proofs.words.are_options.Given as goal

abbrev pub invariant-loop-rest : goal.invariant-loop-rest
invariant-loop-rest l = are_options l.fn.settings (map string_bytes l.rest) ≡ are_options l.fn.settings (map string_bytes l.fn.words)

abbrev pub decreases-loop-rest : goal.decreases-loop-rest
decreases-loop-rest l = length l.rest
