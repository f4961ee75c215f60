use Rattle.std.proofs.Common.{◌≡◌, None, map}
use Rattle.sim_worker_slots.proofs.InSlots.{all_ended}
use Rattle.sim_worker_slots.proofs.slots.end_all.Goals as goal

-- src/slots.rt:111:1
pub returns : goal.returns
returns c = all_ended c.args.turns.now c.loop-turn.turns c.loop-turn.turn-index c.loop-turn.auto.turns (rw c.loop-turn.auto.turns c.loop-turn-test.false) c.loop-turn.auto.turn-index-end c.loop-turn.invariant
