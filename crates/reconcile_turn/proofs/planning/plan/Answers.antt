use Rattle.std.proofs.Common.{rules}
use Rattle.spec_sim.specs.Turns.{plan_by}
use Rattle.reconcile_turn.proofs.planning.plan.Goals as goal

pub returns-in-ReplicaSet : goal.returns-in-ReplicaSet
unfolding plan_by
returns-in-ReplicaSet c = search rules

pub returns-in-Deployment : goal.returns-in-Deployment
unfolding plan_by
returns-in-Deployment c = search rules

pub returns-in-Collector : goal.returns-in-Collector
unfolding plan_by
returns-in-Collector c = search rules
