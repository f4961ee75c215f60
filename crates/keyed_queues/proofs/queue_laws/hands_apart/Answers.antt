use Rattle.spec_client_go.proofs.KeyQueueRuns.{sound, queued_is_free, front_is_queued}
use Rattle.keyed_queues.proofs.queue_laws.hands_apart.Goals as goal

pub returns : goal.returns
returns g c =
    let R = g.K.Named.order in
    let total = g.met.K.Named.ordered in
    λ cs k e. queued_is_free _ _ _ ((sound R total cs).1 k) (front_is_queued R total _ k e)
