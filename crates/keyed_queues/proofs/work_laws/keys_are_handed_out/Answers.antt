use Rattle.keyed_queues.proofs.WorkQueues.{same_handed}
use Rattle.keyed_queues.proofs.work_laws.keys_are_handed_out.Goals as goal

pub returns : goal.returns
returns c = same_handed
