use Rattle.sim_control_plane_laws.proofs.Spared.{spared}
use Rattle.sim_control_plane_laws.proofs.sparing_laws.the_collector_spares_live_owners.Goals as goal

pub returns : goal.returns
returns c = spared
