use Rattle.spec_laws.proofs.DueKeys.{have_come}
use Rattle.spec_laws.proofs.due_laws.due_have_come.Goals as goal

pub returns : goal.returns
returns c = have_come
