use Rattle.sim_overshoot_laws.proofs.MadePods.{made_pods_stay_of_set}
use Rattle.sim_overshoot_laws.proofs.made_pods.made_pods_stay_of_set.Goals as goal

pub returns : goal.returns
returns c = made_pods_stay_of_set
