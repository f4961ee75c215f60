use Rattle.sim_overshoot_laws.proofs.Fairness.{let_alone_is_fair}
use Rattle.sim_overshoot_laws.proofs.claim_laws.let_alone_is_fair.Goals as goal

pub returns : goal.returns
returns c = let_alone_is_fair
