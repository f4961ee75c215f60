use Rattle.spec_laws.proofs.Removals.{adds_no_other}
use Rattle.spec_laws.proofs.lifecycle_laws.no_finalizer_is_added.Goals as goal

pub returns : goal.returns
returns c = adds_no_other
