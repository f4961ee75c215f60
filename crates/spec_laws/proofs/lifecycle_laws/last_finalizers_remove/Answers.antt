use Rattle.spec_laws.proofs.Removals.{last_removes}
use Rattle.spec_laws.proofs.lifecycle_laws.last_finalizers_remove.Goals as goal

pub returns : goal.returns
returns c = last_removes
