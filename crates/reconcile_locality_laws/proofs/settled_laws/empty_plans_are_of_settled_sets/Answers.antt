use Rattle.reconcile_locality_laws.proofs.Settled.{settled_sets}
use Rattle.reconcile_locality_laws.proofs.settled_laws.empty_plans_are_of_settled_sets.Goals as goal

pub returns : goal.returns
returns c = settled_sets
