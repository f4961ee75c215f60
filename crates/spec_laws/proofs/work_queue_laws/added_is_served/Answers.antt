use Rattle.spec_client_go.specs.WorkQueues.{idle, added, after_all}
use Rattle.spec_laws.proofs.WorkQueueRuns.{wanted_is_served, added-wanted}
use Rattle.spec_laws.proofs.work_queue_laws.added_is_served.Goals as goal

pub returns : goal.returns
returns c = λ before cs k e. wanted_is_served k (added k (after_all idle before)) cs (added-wanted k (after_all idle before) e)
