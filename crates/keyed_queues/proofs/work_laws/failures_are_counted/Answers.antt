use Rattle.std.proofs.Common.{refl}
use Rattle.keyed_queues.proofs.work_laws.failures_are_counted.Goals as goal

pub returns : goal.returns
returns c = λ k m. (refl, refl)
