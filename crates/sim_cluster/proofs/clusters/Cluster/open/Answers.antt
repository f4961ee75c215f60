use Rattle.sim_cluster.proofs.Answered.{standing_opened}
use Rattle.sim_cluster.proofs.clusters.Cluster.open.Goals as goal

pub invariant_of-result : goal.invariant_of-result
invariant_of-result c =
    standing_opened c.args.window c.args.initial c.in_ok-new.field-0 c.new_followers.result c.in_ok-new.ensures c.new_followers.ensures
