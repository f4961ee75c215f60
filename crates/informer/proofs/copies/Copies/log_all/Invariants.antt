use Rattle.std.proofs.Common.{◌≡◌}
use Rattle.informer.specs.Copies.{IsSame}
use Rattle.informer.proofs.copies.Copies.log_all.Given as goal

-- what waits is in the log up to the turn
abbrev pub invariant-loop-turn : goal.invariant-loop-turn
invariant-loop-turn l = record { same : IsSame l.fn.self l.self; waiting : l.self.waiting ≡ l.fn.self.waiting; logged : l.self.logged ≡ l._turn }
