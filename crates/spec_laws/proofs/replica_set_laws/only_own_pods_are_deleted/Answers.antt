use Rattle.spec_laws.proofs.PlanLaws.{only_own_pods_are_deleted}
use Rattle.spec_laws.proofs.replica_set_laws.only_own_pods_are_deleted.Goals as goal

pub returns : goal.returns
returns c = only_own_pods_are_deleted
