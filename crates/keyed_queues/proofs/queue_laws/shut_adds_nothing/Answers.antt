use Rattle.std.proofs.Common.{refl}
use Rattle.keyed_queues.specs.Queues.{shut}
use Rattle.keyed_queues.specs.QueueLaws.{made}
use Rattle.spec_client_go.proofs.KeyQueueRuns.{sound, runs_are_sound, queued_is_wanted, front_is_queued, shut-wanted}
use Rattle.keyed_queues.proofs.queue_laws.shut_adds_nothing.Goals as goal

pub returns : goal.returns
returns g c =
    let R = g.K.Named.order in
    let total = g.met.K.Named.ordered in
    λ before cs k e.
    let w = made R before in
    let end = runs_are_sound R total (shut w) cs (sound R total before) in
    shut-wanted R total k (shut w) cs refl (queued_is_wanted _ _ _ (end.1 k) (front_is_queued R total _ k e))
