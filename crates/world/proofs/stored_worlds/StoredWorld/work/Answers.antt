use Rattle.sim_steps.specs.Actions.{action_of}
use Rattle.world.proofs.Asked.{asked}
use Rattle.world.proofs.Taken.{world_of, stands_acted}
use Rattle.world.proofs.stored_worlds.StoredWorld.work.Goals as goal

pub act-requires : goal.act-requires
act-requires c = record { asked = asked (world_of c.self.inside.cluster c.self.inside.manager) c.args.worker (action_of c.args.action) c.self.invariant }

pub invariant_of-self-2 : goal.invariant_of-self-2
invariant_of-self-2 c =
    stands_acted (world_of c.self.inside.cluster c.self.inside.manager) c.args.worker (action_of c.args.action) c.act.new.cluster c.act.new.self c.in_ok-told.ensures.cluster c.in_ok-told.ensures.ok c.self.invariant
