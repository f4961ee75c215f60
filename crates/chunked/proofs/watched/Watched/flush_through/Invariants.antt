use Rattle.std.proofs.Common.{◌≡◌, false}
use Rattle.std.specs.Io.KnownBytes.{Keeps}
use Rattle.chunked.proofs.watched.Watched.flush_through.Given as goal

-- what was written stands
abbrev pub invariant-loop : goal.invariant-loop
invariant-loop g l = Keeps (g.W.Write.contents l.fn.self.device) (g.W.Write.contents l.self.device) × (l.self.failed ≡ false)
