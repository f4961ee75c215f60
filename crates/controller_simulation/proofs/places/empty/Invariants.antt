use Rattle.std.proofs.Common.{◌≡◌, None, replicate}
use Rattle.controller_simulation.proofs.places.empty.Given as goal

abbrev pub invariant-loop : goal.invariant-loop
invariant-loop g l = l.turns.items ≡ replicate l.counter None
