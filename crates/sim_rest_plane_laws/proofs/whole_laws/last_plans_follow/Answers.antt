use Rattle.sim_rest_plane_laws.proofs.FirstCommands.{last_plans_follow}
use Rattle.sim_rest_plane_laws.proofs.whole_laws.last_plans_follow.Goals as goal

pub returns : goal.returns
returns c = last_plans_follow
