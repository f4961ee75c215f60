use Rattle.reconcile_locality_laws.proofs.AtPresent.{items_settled_now}
use Rattle.reconcile_locality_laws.proofs.present_laws.items_are_settled_now.Goals as goal

pub returns : goal.returns
returns c = items_settled_now
