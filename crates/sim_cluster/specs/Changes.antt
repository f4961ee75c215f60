-- Published changes of a cluster that are still to be handled, and what is published.
use Rattle.std.specs.Prelude.{drop}
use Rattle.spec_api.specs.declared.kinds.Kind.{Kind}
use Rattle.spec_client_go.specs.Informers.{Looks}
use Rattle.spec_sim.specs.Followers.{Follower}
use Rattle.reconcile_types.specs.Hands.{looks_by}
use Rattle.sim_cluster.specs.ClusterStates.{ClusterState, follower, with_follower}

-- the cluster once the oldest change of a kind was handled
abbrev pub without_oldest : Kind → ClusterState → ClusterState
without_oldest k w = with_follower k (record (follower k w) { unhandled = drop 1 (follower k w).unhandled }) w

-- what is published of each kind
abbrev pub looks : ClusterState → Looks
looks w = looks_by (λ (f : Follower). f.informer.published.members) w.followers
