use Rattle.spec_examples.proofs.WorkWorked.{double}
use Rattle.spec_examples.proofs.work_examples.delays_double.Goals as goal

pub returns : goal.returns
returns c = double
