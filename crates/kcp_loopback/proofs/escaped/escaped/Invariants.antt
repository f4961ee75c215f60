use Rattle.std.proofs.Common.{◌≡◌, ◌++◌, drop, string_bytes}
use Rattle.kcp_loopback.specs.Escaped.{escaped}
use Rattle.kcp_loopback.proofs.escaped.escaped.Given as goal

abbrev pub invariant-loop-byte : goal.invariant-loop-byte
invariant-loop-byte l = string_bytes l.text ++ escaped (drop l.byte-index l.bytes) ≡ escaped l.bytes
