use Rattle.spec_laws.proofs.PlanLaws.{only_surplus_pods_are_deleted}
use Rattle.spec_laws.proofs.replica_set_laws.only_surplus_pods_are_deleted.Goals as goal

pub returns : goal.returns
returns c = only_surplus_pods_are_deleted
