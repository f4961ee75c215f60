use Rattle.spec_laws.proofs.Garbage.{garbage}
use Rattle.spec_laws.proofs.collector_laws.plans_delete_garbage.Goals as goal

pub returns : goal.returns
returns c = garbage
