use Rattle.sim_rest_plane_laws.proofs.Ends.{last_plans_empty}
use Rattle.sim_rest_plane_laws.proofs.whole_laws.last_plans_are_empty.Goals as goal

pub returns : goal.returns
returns c = last_plans_empty
