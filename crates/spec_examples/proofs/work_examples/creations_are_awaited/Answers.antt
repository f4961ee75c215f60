use Rattle.spec_examples.proofs.WorkWorked.{creations_awaited}
use Rattle.spec_examples.proofs.work_examples.creations_are_awaited.Goals as goal

pub returns : goal.returns
returns c = creations_awaited
