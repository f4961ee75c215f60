use Rattle.std.proofs.Common.{◌≡◌, length, false}
use Rattle.std.specs.Io.KnownBytes.{Keeps}
use Rattle.chunked.proofs.watched.Watched.receive.Given as goal

-- nothing was read so far
abbrev pub invariant-loop : goal.invariant-loop
invariant-loop g l = Keeps (g.R.Read.remaining l.fn.self.device) (g.R.Read.remaining l.self.device) × (length l.buf ≡ length l.fn.buf) × (l.self.failed ≡ false)
