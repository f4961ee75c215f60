use Rattle.spec_laws.proofs.PlanLaws.{pods_go_or_stay}
use Rattle.spec_laws.proofs.replica_set_laws.pods_go_or_stay.Goals as goal

pub returns : goal.returns
returns c = pods_go_or_stay
