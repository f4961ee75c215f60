use Rattle.spec_laws.proofs.Removals.{spared}
use Rattle.spec_laws.proofs.lifecycle_laws.deletes_spare_finalizers.Goals as goal

pub returns : goal.returns
returns c = spared
