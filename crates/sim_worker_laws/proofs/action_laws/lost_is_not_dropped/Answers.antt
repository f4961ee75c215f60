use Rattle.sim_worker_laws.proofs.Actions.{lost_not_dropped}
use Rattle.sim_worker_laws.proofs.action_laws.lost_is_not_dropped.Goals as goal

pub returns : goal.returns
returns c = lost_not_dropped
