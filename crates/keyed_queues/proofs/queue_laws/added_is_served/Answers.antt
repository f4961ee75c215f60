use Rattle.keyed_queues.specs.Queues.{added}
use Rattle.keyed_queues.specs.QueueLaws.{made}
use Rattle.spec_client_go.proofs.KeyQueueRuns.{wanted_is_served, added-wanted}
use Rattle.keyed_queues.proofs.queue_laws.added_is_served.Goals as goal

pub returns : goal.returns
returns g c =
    let R = g.K.Named.order in
    let total = g.met.K.Named.ordered in
    λ before cs k e. wanted_is_served R total k (added k (made R before)) cs (added-wanted R total k (made R before) e)
