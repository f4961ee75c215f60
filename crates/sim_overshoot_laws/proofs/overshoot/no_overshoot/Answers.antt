use Rattle.sim_overshoot_laws.proofs.MadePods.{no_overshoot}
use Rattle.sim_overshoot_laws.proofs.overshoot.no_overshoot.Goals as goal

pub returns : goal.returns
returns c = no_overshoot
