-- What workers reach of a stored cluster is what they reach of the cluster that it stands for.
use Rattle.std.proofs.Common.{◌≡◌, refl, ap, ◌∙◌, Bool, true, false, Option, Some, None}
use Rattle.std.specs.List.{list_all}
use Rattle.std.specs.Prelude.{◌&&◌}
use Rattle.spec_api.specs.History.{found, present, state}
use Rattle.spec_api.specs.Keys.{Key}
use Rattle.spec_api.specs.Kinds.{kinds}
use Rattle.spec_api.specs.ObjectRequests.{Request}
use Rattle.spec_laws.proofs.VerbLaws.{found-state}
use Rattle.spec_server.specs.Snapshots.{Snapshot}
use Rattle.line_session.proofs.Followed.{same_outcome}
use Rattle.spec_sim.specs.Clusters.{Cluster, history}
use Rattle.spec_sim.specs.ControlPlanes as planes
use Rattle.spec_sim.specs.Followers.{Follower}
use Rattle.object_keys.specs.PerKind.{of_kind}
use Rattle.object_keys.specs.declared.per_kind.PerKind.{PerKind}
use Rattle.sim_cluster.proofs.Requests.{stands_after}
use Rattle.sim_cluster.proofs.Stood.{same_follower}
use Rattle.sim_cluster.specs.ClusterStates.{ClusterState}
use Rattle.sim_cluster.specs.Requested.{have_all_listed}
use Rattle.sim_cluster.specs.Standing.{StandsFor}
use Rattle.sim_manager.specs.Reached.{client_of, after_request}
use Rattle.spec_api.specs.Verbs.{write_of}
use Rattle.line_session.specs.SessionStates.{accepted}

-- what is there under a key
same_live : (w : ClusterState) (c : Cluster) → StandsFor w c → (k : Key) → found k w.session.server.snapshot.members ≡ state (history c) (present (history c)) k
same_live w c is k = ap (λ (s : Snapshot). found k s.members) is.session.0.0 ∙ found-state (history c) k

all_four : (a b c d : Bool) → (a && (b && (c && (d && true)))) ≡ (a && b && c && d)
all_four false b c d = refl
all_four true false c d = refl
all_four true true false d = refl
all_four true true true false = refl
all_four true true true true = refl

-- whether the first list of each kind was published
same_synced : (w : ClusterState) (c : Cluster) → StandsFor w c → have_all_listed w ≡ planes.have_all_listed c
same_synced w c is =
    ap (λ (fs : PerKind Follower). list_all (λ k. (of_kind k fs).has_listed) kinds) is.followers
    ∙ all_four c.config_maps.has_listed c.pods.has_listed c.replica_sets.has_listed c.deployments.has_listed

pub same_client : (w : ClusterState) (c : Cluster) → StandsFor w c → client_of w ≡ planes.client c
same_client w c is =
    λ i. record {
      has_synced = same_synced w c is i;
      published = λ k. (same_follower w c is k i).informer.published;
      live = λ k. same_live w c is k i;
      answer = λ q. same_outcome w.session c.session is.session q i;
    }

-- a request, if one was asked
pub request_follows : (w : ClusterState) (c : Cluster) (o : Option Request) → StandsFor w c → StandsFor (after_request o w) (planes.after_request o c)
request_follows w c None is =
    record { session = is.session; journal = is.journal; initial = is.initial; followers = is.followers }
request_follows w c (Some q) is = stands_after w c q (write_of (accepted w.session q)) refl is
