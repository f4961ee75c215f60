-- What is handled makes no difference to what a cluster stands for.
use Rattle.std.proofs.Common.{◌≡◌, ◌∙◌, List, drop, sym, ap, subst}
use Rattle.spec_api.specs.declared.kinds.Kind.{Kind}
use Rattle.spec_api.specs.History.{History}
use Rattle.spec_api.specs.Reached.{IsReached, IsTimestamp}
use Rattle.spec_sim.specs.Clusters as clusters
use Rattle.spec_sim.specs.Clusters.{Cluster, history}
use Rattle.spec_sim.specs.Followers.{Follower, Notification}
use Rattle.sim_cluster_laws.specs.ClusterLaws.{IsFollowed}
use Rattle.sim_cluster_laws.specs.FollowerLaws.{IsFollowing}
use Rattle.spec_sim.proofs.ClusterFollowers.{with_moved, same_session}
use Rattle.sim_cluster.specs.Changes.{without_oldest}
use Rattle.sim_cluster.specs.ClusterStates.{ClusterState, follower, with_follower}
use Rattle.sim_cluster.specs.Standing.{Stands}
use Rattle.sim_cluster.proofs.Stood.{same_follower, with_same}

abbrev with_unhandled : List Notification → Follower → Follower
with_unhandled ns f = record f { unhandled = ns }

same_follows : (h : History) (k : Kind) (f : Follower) (ns : List Notification) → IsFollowing h k f → IsFollowing h k (with_unhandled ns f)
same_follows h k f ns is = record { kind = is.kind; reached = is.reached; published = is.published; passed = is.passed; pending = is.pending; linked = is.linked }

followed : (c : Cluster) (k : Kind) (ns : List Notification) → IsFollowed c → IsFollowed (clusters.with_follower k (with_unhandled ns (clusters.follower k c)) c)
followed c k ns is =
    let f = with_unhandled ns (clusters.follower k c) in
    subst (λ s. IsReached s.history × IsTimestamp s.moment × ((j : Kind) → IsFollowing s.history j (clusters.follower j (clusters.with_follower k f c)))) (sym (same_session c k f))
    (is.0, is.1, with_moved (IsFollowing (history c)) c k f (same_follows (history c) k (clusters.follower k c) ns (is.2 k)) is.2)

pub handled_stands : (w : ClusterState) (k : Kind) → Stands w → Stands (without_oldest k w)
unfolding Stands
handled_stands w k (c, is, follows) =
    let ns = drop 1 (follower k w).unhandled in (
      clusters.with_follower k (with_unhandled ns (clusters.follower k c)) c,
      with_same w c k (with_unhandled ns (follower k w)) (with_unhandled ns (clusters.follower k c)) is (ap (with_unhandled ns) (same_follower w c is k)),
      followed c k ns follows,
    )

-- the follower of a kind, with what is left
pub standing_handled : (w : ClusterState) (k : Kind) (g f : Follower) → g ≡ follower k w → f ≡ with_unhandled (drop 1 g.unhandled) g → Stands w → Stands (with_follower k f w)
standing_handled w k g f found left is =
    subst (λ h. Stands (with_follower k h w)) (sym (left ∙ ap (λ (h : Follower). with_unhandled (drop 1 h.unhandled) h) found)) (handled_stands w k is)
