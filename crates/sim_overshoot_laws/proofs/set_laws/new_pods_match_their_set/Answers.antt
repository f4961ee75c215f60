use Rattle.sim_overshoot_laws.proofs.PodLabels.{new_pods_match_their_set}
use Rattle.sim_overshoot_laws.proofs.set_laws.new_pods_match_their_set.Goals as goal

pub returns : goal.returns
returns c = new_pods_match_their_set
