use Rattle.sim_settled_laws.proofs.Rest.{items_owned}
use Rattle.sim_settled_laws.proofs.settled_laws.items_follow.Goals as goal

pub returns : goal.returns
returns c = items_owned
