use Rattle.sim_worker_laws.proofs.Steps.{ticks_add}
use Rattle.sim_worker_laws.proofs.step_laws.ticks_add_what_is_due.Goals as goal

pub returns : goal.returns
returns c = ticks_add
