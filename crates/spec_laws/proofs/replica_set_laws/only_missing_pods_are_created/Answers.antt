use Rattle.spec_laws.proofs.PlanLaws.{only_missing_pods_are_created}
use Rattle.spec_laws.proofs.replica_set_laws.only_missing_pods_are_created.Goals as goal

pub returns : goal.returns
returns c = only_missing_pods_are_created
