use Rattle.spec_laws.proofs.PlanLaws.{turns_are_bounded}
use Rattle.spec_laws.proofs.replica_set_laws.turns_are_bounded.Goals as goal

pub returns : goal.returns
returns c = turns_are_bounded
