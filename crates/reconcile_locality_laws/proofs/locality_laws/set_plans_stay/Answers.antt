use Rattle.reconcile_locality_laws.proofs.SetTurns.{plans_stay}
use Rattle.reconcile_locality_laws.proofs.locality_laws.set_plans_stay.Goals as goal

pub returns : goal.returns
returns c = plans_stay
