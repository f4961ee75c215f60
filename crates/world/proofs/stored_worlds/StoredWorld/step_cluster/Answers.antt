use Rattle.sim_steps.specs.Steps.{step_of}
use Rattle.world.proofs.Taken.{world_of, restarted_after, kept_after, stands_clustered}
use Rattle.world.proofs.stored_worlds.StoredWorld.step_cluster.Goals as goal

pub invariant_of-self-in-Restart : goal.invariant_of-self-in-Restart
invariant_of-self-in-Restart c =
    stands_clustered (world_of c.self.inside.cluster c.self.inside.manager) (step_of c.args.wanted) c.step.new.self c.restart.new.self c.in_ok-outcome.ensures.after
    (restarted_after c.args.wanted c.self.inside.manager c.restart.new.self c.in-Restart.is c.restart.ensures) c.self.invariant

pub invariant_of-self-in_default : goal.invariant_of-self-in_default
invariant_of-self-in_default c =
    stands_clustered (world_of c.self.inside.cluster c.self.inside.manager) (step_of c.args.wanted) c.step.new.self c.self.inside.manager c.in_ok-outcome.ensures.after
    (kept_after c.args.wanted c.self.inside.manager c.in_default.not-Restart) c.self.invariant
