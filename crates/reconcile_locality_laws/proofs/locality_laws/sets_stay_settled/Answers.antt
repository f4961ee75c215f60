use Rattle.reconcile_locality_laws.proofs.SetTurns.{stay_settled}
use Rattle.reconcile_locality_laws.proofs.locality_laws.sets_stay_settled.Goals as goal

pub returns : goal.returns
returns c = stay_settled
