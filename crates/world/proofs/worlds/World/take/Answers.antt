use Rattle.sim_steps.specs.PlaneSteps.{plane_step_of}
use Rattle.world.proofs.Stood.{stands_taken}
use Rattle.world.proofs.worlds.World.take.Goals as goal

pub invariant_of-self-2 : goal.invariant_of-self-2
invariant_of-self-2 c =
    stands_taken (record { stored = c.self.inside.stored; trace = c.self.inside.trace.taken }) (plane_step_of c.args.wanted) c.take.new.self c.followed-self-inside.result.taken
    c.in_ok-outcome.ensures.after c.followed-self-inside.ensures c.self.invariant
