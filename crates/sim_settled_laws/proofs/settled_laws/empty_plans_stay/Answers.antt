use Rattle.sim_settled_laws.proofs.Joins.{plans_stay}
use Rattle.sim_settled_laws.proofs.settled_laws.empty_plans_stay.Goals as goal

pub returns : goal.returns
returns c = plans_stay
