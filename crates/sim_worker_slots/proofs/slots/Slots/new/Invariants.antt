use Rattle.std.proofs.Common.{◌≡◌, None, replicate}
use Rattle.sim_worker_slots.proofs.slots.Slots.new.Given as goal

abbrev pub invariant-loop : goal.invariant-loop
invariant-loop l = l.turns.items ≡ replicate l.counter None
