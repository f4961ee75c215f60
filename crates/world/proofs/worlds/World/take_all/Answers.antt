use Rattle.std.proofs.Common.{[], refl}
use Rattle.sim_steps.specs.PlaneSteps.{plane_step_of}
use Rattle.sim_steps.specs.declared.plane_steps.PlaneStep.{PlaneStep}
use Rattle.sim_steps.specs.declared.plane_steps.PlaneStep.TheVariants.{InCluster}
use Rattle.sim_steps.specs.declared.steps.Step.TheVariants.{Request}
use Rattle.world.specs.WorldStates.{step, run}
use Rattle.sim_cluster.proofs.Taking.{next_taken}
use Rattle.world.proofs.worlds.World.take_all.Goals as goal

pub loop-taken-preserved : goal.loop-taken-preserved
loop-taken-preserved c =
    let none : PlaneStep = InCluster (Request (record { ref_ptr = (0, 0); now = [] })) in
    next_taken (λ w s. (step w s).world) run (λ _. refl) (λ _ _ _. refl) plane_step_of c.args.self.now c.loop-taken.self c.take.new.self c.args.steps.now c.loop-taken.taken none c.loop-taken-test.true c.loop-taken.invariant c.in-Ok.ensures.after
