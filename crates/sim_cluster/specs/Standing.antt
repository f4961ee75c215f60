-- What a stored cluster stands for.
use Rattle.std.specs.Prelude.{◌≡◌}
use Rattle.line_session.specs.Laws as sessions
use Rattle.object_keys.specs.PerKind.{each_kind}
use Rattle.object_keys.specs.declared.per_kind.PerKind.{PerKind}
use Rattle.spec_sim.specs.Clusters.{Cluster, follower, history}
use Rattle.spec_sim.specs.Followers.{Follower}
use Rattle.sim_cluster_laws.specs.ClusterLaws.{IsFollowed}
use Rattle.sim_cluster.specs.ClusterStates.{ClusterState}

-- what follows each kind in a cluster
abbrev pub followers_of : Cluster → PerKind Follower
followers_of c = each_kind (λ k. follower k c)

-- its server stands for all that has happened in the cluster, which its journal has, and how followers begin, and what follows each kind, is the same
pub record StandsFor (w : ClusterState) (c : Cluster) : Type 0 where
  pub session : sessions.Follows w.session c.session
  pub journal : w.journal ≡ history c
  pub initial : w.initial ≡ c.initial
  pub followers : w.followers ≡ followers_of c

-- it stands for some cluster where what has happened can happen, and whose followers follow it
unfoldable pub Stands : ClusterState → Type 0
Stands w = (c : Cluster) × StandsFor w c × IsFollowed c
