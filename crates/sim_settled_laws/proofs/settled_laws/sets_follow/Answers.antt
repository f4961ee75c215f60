use Rattle.sim_settled_laws.proofs.Rest.{sets_declared}
use Rattle.sim_settled_laws.proofs.settled_laws.sets_follow.Goals as goal

pub returns : goal.returns
returns c = sets_declared
