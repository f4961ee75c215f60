use Rattle.std.proofs.Common.{refl}
use Rattle.spec_client_go.specs.WorkQueues.{idle, shut, after_all}
use Rattle.spec_laws.proofs.WorkQueueRuns.{sound, runs_are_sound, queued_is_wanted, front_is_queued, shut-wanted}
use Rattle.spec_laws.proofs.work_queue_laws.shut_adds_nothing.Goals as goal

pub returns : goal.returns
returns c =
    λ before cs k e.
    let w = after_all idle before in
    let end = runs_are_sound (shut w) cs (sound before) in
    shut-wanted k (shut w) cs refl (queued_is_wanted _ _ _ (end.1 k) (front_is_queued _ k e))
