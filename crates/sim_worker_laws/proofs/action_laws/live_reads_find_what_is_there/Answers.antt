use Rattle.sim_worker_laws.proofs.Actions.{reads_find}
use Rattle.sim_worker_laws.proofs.action_laws.live_reads_find_what_is_there.Goals as goal

pub returns : goal.returns
returns c = reads_find
