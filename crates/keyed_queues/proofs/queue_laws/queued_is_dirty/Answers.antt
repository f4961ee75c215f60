use Rattle.spec_client_go.proofs.KeyQueueRuns.{sound, queued_is_wanted}
use Rattle.keyed_queues.proofs.queue_laws.queued_is_dirty.Goals as goal

pub returns : goal.returns
returns g c =
    let R = g.K.Named.order in
    let total = g.met.K.Named.ordered in
    λ cs k q. queued_is_wanted _ _ _ ((sound R total cs).1 k) q
