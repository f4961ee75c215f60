use Rattle.sim_overshoot_laws.proofs.KeptReferences.{have_one_controller}
use Rattle.sim_overshoot_laws.proofs.claim_laws.stored_have_one_controller.Goals as goal

pub returns : goal.returns
returns c = have_one_controller
