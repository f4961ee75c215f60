use Rattle.keyed_queues.proofs.FailureCounts.{doubled}
use Rattle.keyed_queues.proofs.failure_laws.delays_double.Goals as goal

pub returns : goal.returns
returns c = doubled
