use Rattle.sim_worker_laws.proofs.Steps.{open_counted}
use Rattle.sim_worker_laws.proofs.step_laws.open_steps_are_counted.Goals as goal

pub returns : goal.returns
returns c = open_counted
