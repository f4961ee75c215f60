use Rattle.spec_client_go.proofs.KeyQueueRuns.{sound, wanted_is_somewhere}
use Rattle.keyed_queues.proofs.queue_laws.nothing_is_lost.Goals as goal

pub returns : goal.returns
returns g c =
    let R = g.K.Named.order in
    let total = g.met.K.Named.ordered in
    λ cs k d. wanted_is_somewhere _ _ _ ((sound R total cs).1 k) d
