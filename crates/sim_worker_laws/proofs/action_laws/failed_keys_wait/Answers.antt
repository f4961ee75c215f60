use Rattle.sim_worker_laws.proofs.Actions.{failed_wait}
use Rattle.sim_worker_laws.proofs.action_laws.failed_keys_wait.Goals as goal

pub returns : goal.returns
returns c = failed_wait
