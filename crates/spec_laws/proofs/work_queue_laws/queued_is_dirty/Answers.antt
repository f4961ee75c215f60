use Rattle.spec_laws.proofs.WorkQueueRuns.{sound, queued_is_wanted}
use Rattle.spec_laws.proofs.work_queue_laws.queued_is_dirty.Goals as goal

pub returns : goal.returns
returns c = λ cs k q. queued_is_wanted _ _ _ ((sound cs).1 k) q
