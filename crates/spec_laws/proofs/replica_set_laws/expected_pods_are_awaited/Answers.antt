use Rattle.spec_laws.proofs.PlanLaws.{expected_pods_are_awaited}
use Rattle.spec_laws.proofs.replica_set_laws.expected_pods_are_awaited.Goals as goal

pub returns : goal.returns
returns c = expected_pods_are_awaited
