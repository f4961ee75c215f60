use Rattle.sim_rest_plane_laws.proofs.WritesLead.{writes_unowed}
use Rattle.sim_rest_plane_laws.proofs.whole_laws.last_writes_are_unowed.Goals as goal

pub returns : goal.returns
returns c = writes_unowed
