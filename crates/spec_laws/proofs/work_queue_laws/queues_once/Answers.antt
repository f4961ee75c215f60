use Rattle.spec_laws.proofs.WorkQueueRuns.{sound}
use Rattle.spec_laws.proofs.work_queue_laws.queues_once.Goals as goal

pub returns : goal.returns
returns c = λ cs. (sound cs).0
