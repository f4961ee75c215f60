use Rattle.keyed_queues.proofs.FailureCounts.{taken_back}
use Rattle.keyed_queues.proofs.failure_laws.failures_are_taken_back.Goals as goal

pub returns : goal.returns
returns g c = taken_back g.K.Named.order g.met.K.Named.ordered g.met.K.Named.apart
