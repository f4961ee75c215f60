use Rattle.spec_examples.proofs.WorkWorked.{wait_once}
use Rattle.spec_examples.proofs.work_examples.keys_wait_once.Goals as goal

pub returns : goal.returns
returns c = wait_once
