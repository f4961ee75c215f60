use Rattle.sim_rest_plane_laws.proofs.Ends.{deletions_at_rest}
use Rattle.sim_rest_plane_laws.proofs.whole_laws.deletions_are_blocked_at_rest.Goals as goal

pub returns : goal.returns
returns c = deletions_at_rest
