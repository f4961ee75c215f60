use Rattle.spec_client_go.proofs.KeyQueueRuns.{sound}
use Rattle.keyed_queues.proofs.queue_laws.queues_once.Goals as goal

pub returns : goal.returns
returns g c =
    let R = g.K.Named.order in
    let total = g.met.K.Named.ordered in
    λ cs. (sound R total cs).0
