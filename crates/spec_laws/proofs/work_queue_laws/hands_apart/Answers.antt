use Rattle.spec_laws.proofs.WorkQueueRuns.{sound, queued_is_free, front_is_queued}
use Rattle.spec_laws.proofs.work_queue_laws.hands_apart.Goals as goal

pub returns : goal.returns
returns c = λ cs k e. queued_is_free _ _ _ ((sound cs).1 k) (front_is_queued _ k e)
