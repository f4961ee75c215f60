-- Each command of each plan can be asked.
use Rattle.spec_laws.specs.AskedLaws.{PlansCanBeAsked}
use Rattle.spec_laws.proofs.AskedDeployments.{deployments_asked}
use Rattle.spec_laws.proofs.AskedReplicaSets.{sets_asked, collector_asked}

pub plans_asked : PlansCanBeAsked
plans_asked = record { of_replica_sets = sets_asked; of_deployments = deployments_asked; of_the_collector = collector_asked }
