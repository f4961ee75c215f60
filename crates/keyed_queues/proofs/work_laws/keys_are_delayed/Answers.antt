use Rattle.std.proofs.Common.{refl}
use Rattle.keyed_queues.proofs.work_laws.keys_are_delayed.Goals as goal

pub returns : goal.returns
returns c = λ m. (λ k at. refl, λ now. refl)
