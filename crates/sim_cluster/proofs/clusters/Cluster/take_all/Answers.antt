use Rattle.std.proofs.Common.{[], refl}
use Rattle.sim_steps.specs.Steps.{step_of}
use Rattle.sim_steps.specs.declared.steps.Step.{Step}
use Rattle.sim_steps.specs.declared.steps.Step.TheVariants.{Request}
use Rattle.sim_cluster.specs.ClusterStates.{step, run}
use Rattle.sim_cluster.proofs.Taking.{next_taken}
use Rattle.sim_cluster.proofs.clusters.Cluster.take_all.Goals as goal

pub loop-taken-preserved : goal.loop-taken-preserved
loop-taken-preserved c =
    let none : Step = Request (record { ref_ptr = (0, 0); now = [] }) in
    next_taken (λ w s. (step w s).cluster) run (λ _. refl) (λ _ _ _. refl) step_of c.args.self.now c.loop-taken.self c.take.new.self c.args.steps.now c.loop-taken.taken none c.loop-taken-test.true c.loop-taken.invariant c.in-Ok.ensures.after
