use Rattle.keyed_queues.proofs.FailureCounts.{has_failed}
use Rattle.keyed_queues.proofs.failure_laws.failed_have_failures.Goals as goal

pub returns : goal.returns
returns g c = has_failed g.K.Named.order g.met.K.Named.ordered g.met.K.Named.apart
