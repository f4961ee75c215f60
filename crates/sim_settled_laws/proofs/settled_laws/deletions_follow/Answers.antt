use Rattle.sim_settled_laws.proofs.Rest.{deletions_blocked}
use Rattle.sim_settled_laws.proofs.settled_laws.deletions_follow.Goals as goal

pub returns : goal.returns
returns c = deletions_blocked
