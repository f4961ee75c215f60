use Rattle.spec_laws.proofs.WorkQueueRuns.{sound, wanted_is_somewhere}
use Rattle.spec_laws.proofs.work_queue_laws.nothing_is_lost.Goals as goal

pub returns : goal.returns
returns c = λ cs k d. wanted_is_somewhere _ _ _ ((sound cs).1 k) d
