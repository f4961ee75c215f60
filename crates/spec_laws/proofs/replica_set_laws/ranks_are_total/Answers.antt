use Rattle.spec_laws.proofs.PlanLaws.{ranks_are_total}
use Rattle.spec_laws.proofs.replica_set_laws.ranks_are_total.Goals as goal

pub returns : goal.returns
returns c = ranks_are_total
