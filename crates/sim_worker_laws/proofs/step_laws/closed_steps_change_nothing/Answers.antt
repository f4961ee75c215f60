use Rattle.sim_worker_laws.proofs.Steps.{closed_still}
use Rattle.sim_worker_laws.proofs.step_laws.closed_steps_change_nothing.Goals as goal

pub returns : goal.returns
returns c = closed_still
