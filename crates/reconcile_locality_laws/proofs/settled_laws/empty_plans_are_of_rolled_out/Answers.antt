use Rattle.reconcile_locality_laws.proofs.SettledRollouts.{rolled_out}
use Rattle.reconcile_locality_laws.proofs.settled_laws.empty_plans_are_of_rolled_out.Goals as goal

pub returns : goal.returns
returns c = rolled_out
