use Rattle.reconcile_locality_laws.proofs.AtPresent.{sets_declared_now}
use Rattle.reconcile_locality_laws.proofs.present_laws.sets_are_as_declared_now.Goals as goal

pub returns : goal.returns
returns c = sets_declared_now
