use Rattle.std.proofs.Common.{refl}
use Rattle.spec_api.proofs.OnLiterals.{on_literals}
use Rattle.spec_sim.specs.Turns.{asks_by, plan_by}
use Rattle.spec_examples.proofs.sim_turn_examples.lost_pods_are_seen.Goals as goal

pub returns : goal.returns
unfolding on_literals asks_by plan_by
returns c = λ b. (refl, refl, refl)
