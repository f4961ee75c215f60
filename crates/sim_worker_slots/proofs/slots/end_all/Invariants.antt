use Rattle.std.proofs.Common.{◌≡◌, None, replicate, take}
use Rattle.sim_worker_slots.proofs.slots.end_all.Given as goal

abbrev pub invariant-loop-turn : goal.invariant-loop-turn
invariant-loop-turn l = take l.turn-index l.turns ≡ replicate l.turn-index None
