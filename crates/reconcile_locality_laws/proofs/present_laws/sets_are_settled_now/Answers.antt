use Rattle.reconcile_locality_laws.proofs.AtPresent.{sets_settled_now}
use Rattle.reconcile_locality_laws.proofs.present_laws.sets_are_settled_now.Goals as goal

pub returns : goal.returns
returns c = sets_settled_now
