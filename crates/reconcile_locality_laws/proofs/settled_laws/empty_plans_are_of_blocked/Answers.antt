use Rattle.reconcile_locality_laws.proofs.Settled.{blocked_items}
use Rattle.reconcile_locality_laws.proofs.settled_laws.empty_plans_are_of_blocked.Goals as goal

pub returns : goal.returns
returns c = blocked_items
