use Rattle.std.proofs.Common.{◌≡◌, length, take, false}
use Rattle.std.specs.Io.KnownBytes.{Consumes}
use Rattle.httparse.specs.Grammar.{HasNoChunkLine}
use Rattle.chunked.proofs.line.read_size.Given as goal

-- what was read is no whole line
abbrev pub invariant-loop-len : goal.invariant-loop-len
invariant-loop-len g l =
    Consumes (g.R.Read.remaining l.fn.device.device) (g.R.Read.remaining l.device.device) (take l.len l.line) × HasNoChunkLine (take l.len l.line)
    × (length l.line ≡ 256) × (l.device.failed ≡ false)
