use Rattle.world.proofs.Taken.{world_of, stands_ticked}
use Rattle.world.proofs.stored_worlds.StoredWorld.tick.Goals as goal

pub invariant_of-self-2 : goal.invariant_of-self-2
invariant_of-self-2 c = stands_ticked (world_of c.self.inside.cluster c.self.inside.manager) c.args.milliseconds c.tick.new.self c.in_ok-told.ensures.ok c.self.invariant
