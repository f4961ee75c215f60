use Rattle.sim_rest_plane_laws.proofs.ReadsLead.{states_are_passed}
use Rattle.sim_rest_plane_laws.proofs.whole_laws.states_are_passed.Goals as goal

pub returns : goal.returns
returns c = states_are_passed
