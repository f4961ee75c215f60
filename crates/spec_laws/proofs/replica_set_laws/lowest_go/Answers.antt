use Rattle.spec_laws.proofs.PlanLaws.{lowest_go}
use Rattle.spec_laws.proofs.replica_set_laws.lowest_go.Goals as goal

pub returns : goal.returns
returns c = lowest_go
