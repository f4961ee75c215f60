use Rattle.reconcile_locality_laws.proofs.Settled.{owned_items}
use Rattle.reconcile_locality_laws.proofs.settled_laws.empty_plans_are_of_owned.Goals as goal

pub returns : goal.returns
returns c = owned_items
