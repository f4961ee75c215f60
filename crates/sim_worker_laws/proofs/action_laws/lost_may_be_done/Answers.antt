use Rattle.sim_worker_laws.proofs.Actions.{lost_may}
use Rattle.sim_worker_laws.proofs.action_laws.lost_may_be_done.Goals as goal

pub returns : goal.returns
returns c = lost_may
