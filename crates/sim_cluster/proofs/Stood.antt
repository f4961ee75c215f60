-- A stored cluster stands for a cluster, step after step.
use Rattle.std.proofs.Common.{◌≡◌, refl, sym, ap, subst, ◌∙◌, ℕ, List, [], ◌∷◌, Result, Ok, Err, OnOk, OnErr}
use Rattle.spec_api.specs.declared.kinds.Kind.{Kind}
use Rattle.spec_api.specs.declared.kinds.Kind.TheVariants.{ConfigMap, Pod, ReplicaSet, Deployment}
use Rattle.spec_line_protocol.specs.Lines as lines
use Rattle.spec_line_protocol.specs.Lines.{Line, line_of}
use Rattle.line_session.proofs.Followed.{follows_line, same_line, sessions_follow}
use Rattle.spec_sim.specs.declared.initial_syncs.InitialSync.{InitialSync}
use Rattle.spec_sim.specs.Clusters as clusters
use Rattle.spec_sim.specs.Clusters.{Cluster, ClusterStep, request, compact, moves, restart}
use Rattle.spec_sim.specs.Followers.{Follower, begun}
use Rattle.spec_sim.specs.Moves as moving
use Rattle.spec_sim.specs.Moves.{Move, replied, answers_by, move_by}
use Rattle.sim_cluster_laws.proofs.Runs.{keeps, runs_followed}
use Rattle.sim_cluster_laws.proofs.Serving.{servers_serve}
use Rattle.object_keys.specs.PerKind.{of_kind, with_kind, each_kind}
use Rattle.object_keys.specs.declared.per_kind.PerKind.{PerKind}
use Rattle.sim_cluster.specs.Standing.{followers_of, StandsFor, Stands}
use Rattle.sim_cluster.specs.ClusterStates.{ClusterState, opened, answered_line, follower, with_follower, step, run}
use Rattle.line_session.proofs.RecordedWrites.{line_recorded}

-- ---- one step

of_followers : (c : Cluster) (k : Kind) → of_kind k (followers_of c) ≡ clusters.follower k c
of_followers c ConfigMap = refl
of_followers c Pod = refl
of_followers c ReplicaSet = refl
of_followers c Deployment = refl

pub same_follower : (w : ClusterState) (c : Cluster) → StandsFor w c → (k : Kind) → follower k w ≡ clusters.follower k c
same_follower w c is k = ap (λ (fs : PerKind Follower). of_kind k fs) is.followers ∙ of_followers c k

pub with_same : (w : ClusterState) (c : Cluster) (k : Kind) (f g : Follower) → StandsFor w c → f ≡ g → StandsFor (with_follower k f w) (clusters.with_follower k g c)
with_same w c ConfigMap f g is e = record { session = is.session; journal = is.journal; initial = is.initial; followers = λ i. with_kind ConfigMap (e i) (is.followers i) }
with_same w c Pod f g is e = record { session = is.session; journal = is.journal; initial = is.initial; followers = λ i. with_kind Pod (e i) (is.followers i) }
with_same w c ReplicaSet f g is e = record { session = is.session; journal = is.journal; initial = is.initial; followers = λ i. with_kind ReplicaSet (e i) (is.followers i) }
with_same w c Deployment f g is e = record { session = is.session; journal = is.journal; initial = is.initial; followers = λ i. with_kind Deployment (e i) (is.followers i) }

same_move : (w : ClusterState) (c : Cluster) (k : Kind) (m : Move) → StandsFor w c
    → move_by k (answers_by k w.session.server) (follower k w) m ≡ moving.move k c.session.window c.session.history (clusters.follower k c) m
same_move w c k m is =
    servers_serve c.session.window w.session.server c.session.history k (follower k w) m is.session.0
    ∙ ap (λ f. moving.move k c.session.window c.session.history f m) (same_follower w c is k)

after_line : (w : ClusterState) (c : Cluster) (l : Line) → StandsFor w c → StandsFor (answered_line w l).cluster (clusters.asked_of c l).cluster
after_line w c l is =
    record {
      session = follows_line w.session c.session is.session l;
      journal = line_recorded w.journal w.session c.session l is.session is.journal;
      initial = is.initial;
      followers = is.followers;
    }

after_compaction : (w : ClusterState) (c : Cluster) (r : ℕ) → StandsFor w c → StandsFor (step w (compact r)).cluster (clusters.step c (compact r)).cluster
unfolding step
after_compaction w c r is =
    record {
      session = follows_line w.session c.session is.session (lines.compact r);
      journal = line_recorded w.journal w.session c.session (lines.compact r) is.session is.journal;
      initial = is.initial;
      followers = is.followers;
    }

pub steps_follow : (w : ClusterState) (c : Cluster) (s : ClusterStep) → StandsFor w c → StandsFor (step w s).cluster (clusters.step c s).cluster
unfolding step
steps_follow w c (request t) is = after_line w c (line_of t) is
steps_follow w c (compact r) is = after_compaction w c r is
steps_follow w c (moves k m) is = with_same w c k _ _ is (ap (λ (m : moving.Moved). m.follower) (same_move w c k m is))
steps_follow w c restart is =
    record { session = is.session; journal = is.journal; initial = is.initial; followers = ap (λ (i : InitialSync). each_kind (begun i)) is.initial }

-- and the same is told of both
pub outcomes_same : (w : ClusterState) (c : Cluster) (s : ClusterStep) → StandsFor w c → (step w s).outcome ≡ (clusters.step c s).outcome
unfolding step
outcomes_same w c (request t) is = ap replied (same_line w.session c.session is.session (line_of t))
outcomes_same w c (compact r) is = ap replied (same_line w.session c.session is.session (lines.compact r))
outcomes_same w c (moves k m) is = ap (λ (m : moving.Moved). m.outcome) (same_move w c k m is)
outcomes_same w c restart is = refl

-- ---- what it stands for stays so

pub stood : (w : ClusterState) (s : ClusterStep) → Stands w → Stands (step w s).cluster
unfolding Stands
stood w s (c, is, followed) = ((clusters.step c s).cluster, steps_follow w c s is, keeps c s followed)

pub run_stood : (w : ClusterState) (ss : List ClusterStep) → Stands w → Stands (run w ss)
run_stood w [] is = is
run_stood w (s ∷ ss) is = run_stood (step w s).cluster ss (stood w s is)

pub stands_for_opened : (size : ℕ) (i : InitialSync) → StandsFor (opened size i) (clusters.opened size i)
stands_for_opened size i = record { session = sessions_follow.0 size; journal = refl; initial = refl; followers = refl }

pub stands_opened : (size : ℕ) (i : InitialSync) → Stands (opened size i)
unfolding Stands
stands_opened size i = (clusters.opened size i, stands_for_opened size i, runs_followed size i [])

-- a step that was taken, or changed nothing
pub stood_after : {X E : Type 0} (w v : ClusterState) (s : ClusterStep) (r : Result X E) → Stands w → OnOk r (v ≡ (step w s).cluster) → OnErr r (v ≡ w) → Stands v
stood_after w v s (Ok x) is moved stays = subst Stands (sym moved) (stood w s is)
stood_after w v s (Err e) is moved stays = subst Stands (sym stays) is
