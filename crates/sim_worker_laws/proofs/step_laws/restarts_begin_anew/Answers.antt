use Rattle.sim_worker_laws.proofs.Steps.{restarts_anew}
use Rattle.sim_worker_laws.proofs.step_laws.restarts_begin_anew.Goals as goal

pub returns : goal.returns
returns c = restarts_anew
