use Rattle.keyed_queues.proofs.WorkQueues.{same_queues}
use Rattle.keyed_queues.proofs.work_laws.queues_are_work_queues.Goals as goal

pub returns : goal.returns
returns c = same_queues
