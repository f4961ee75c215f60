use Rattle.spec_examples.proofs.WorkWorked.{come_due}
use Rattle.spec_examples.proofs.work_examples.keys_come_due.Goals as goal

pub returns : goal.returns
returns c = come_due
