use Rattle.spec_laws.proofs.PlanLaws.{never_both}
use Rattle.spec_laws.proofs.replica_set_laws.never_both.Goals as goal

pub returns : goal.returns
returns c = never_both
