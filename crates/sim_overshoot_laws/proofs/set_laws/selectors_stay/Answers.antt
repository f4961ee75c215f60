use Rattle.sim_overshoot_laws.proofs.OneSelector.{selectors_stay}
use Rattle.sim_overshoot_laws.proofs.set_laws.selectors_stay.Goals as goal

pub returns : goal.returns
returns c = selectors_stay
