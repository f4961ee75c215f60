-- What a server answers those who follow it, and what a move makes of a cluster.
use Rattle.std.proofs.Common.{◌≡◌, refl, ℕ, List, sym, ap, subst, ◌∙◌, Result, Ok, Err, OnOk, OnErr, IfOk, Some, None}
use Rattle.spec_api.specs.declared.kinds.Kind.{Kind}
use Rattle.spec_api.specs.declared.kinds.Kind.TheVariants.{ConfigMap, Pod, ReplicaSet, Deployment}
use Rattle.spec_api.specs.History.{History, unfiltered}
use Rattle.object_keys.specs.PerKind.{each_kind}
use Rattle.object_keys.specs.declared.per_kind.PerKind.{PerKind}
use Rattle.sim_followers.specs.Answered.{AnswersLists, IsListBody}
use Rattle.spec_laws.proofs.RepliesRead.{replies_read}
use Rattle.spec_laws.proofs.ServerAnswers.{pages_held}
use Rattle.spec_laws.specs.ReplyLaws.{newest}
use Rattle.spec_server.specs.Servers.{Server}
use Rattle.spec_line_protocol.specs.Lines as lines
use Rattle.spec_line_protocol.specs.Lines.{line_of}
use Rattle.line_session.specs.SessionStates.{SessionState, state_after}
use Rattle.spec_sim.specs.declared.initial_syncs.InitialSync.{InitialSync}
use Rattle.spec_sim.specs.Clusters.{request, compact, moves, restart, history}
use Rattle.spec_sim.specs.Followers.{Follower, begun}
use Rattle.spec_sim.specs.Moves as moving
use Rattle.spec_sim.specs.Moves.{Move, answers_by, listed_of, move_by}
use Rattle.sim_cluster_laws.proofs.Serving.{same_answers}
use Rattle.line_session.specs.RecordedStates as recorded
use Rattle.line_session.specs.RecordedStates.{RecordedState, journal_after}
use Rattle.sim_cluster.specs.Standing.{Stands}
use Rattle.sim_cluster.specs.ClusterStates.{ClusterState, follower, with_follower, step}
use Rattle.sim_cluster.proofs.Stood.{same_follower, stood, stands_opened}

abbrev pub cluster_of : RecordedState → InitialSync → PerKind Follower → ClusterState
cluster_of r i fs = record { session = r.session; journal = r.journal; initial = i; followers = fs }

-- ---- what it stands for stays so

pub standing_opened : (size : ℕ) (i : InitialSync) (r : RecordedState) (fs : PerKind Follower) → r ≡ recorded.begun size → fs ≡ each_kind (begun i) → Stands (cluster_of r i fs)
standing_opened size i r fs first anew = subst Stands (λ j. cluster_of (sym first j) i (sym anew j)) (stands_opened size i)

pub standing_restarted : (w : ClusterState) (fs : PerKind Follower) → fs ≡ each_kind (begun w.initial) → Stands w → Stands (record w { followers = fs })
unfolding step
standing_restarted w fs anew is = subst Stands (λ i. record w { followers = sym anew i }) (stood w restart is)

pub standing_answered : (w : ClusterState) (t : List ℕ) (s : SessionState) (j : History) → s ≡ state_after w.session (line_of t) → j ≡ journal_after w.session w.journal (line_of t) → Stands w
    → Stands (record w { session = s; journal = j })
unfolding step
standing_answered w t s j after added is = subst Stands (λ i. record w { session = sym after i; journal = sym added i }) (stood w (request t) is)

pub standing_compacted : (w : ClusterState) (r : ℕ) (s : SessionState) (j : History) → s ≡ state_after w.session (lines.compact r) → j ≡ journal_after w.session w.journal (lines.compact r) → Stands w
    → Stands (record w { session = s; journal = j })
unfolding step
standing_compacted w r s j after same is = subst Stands (λ i. record w { session = sym after i; journal = sym same i }) (stood w (compact r) is)

-- ---- one follower

pub kind_at : (w : ClusterState) (k : Kind) → Stands w → (follower k w).reflector.kind ≡ k
unfolding Stands
kind_at w k (c, is, followed) = ap (λ (f : Follower). f.reflector.kind) (same_follower w c is k) ∙ (followed.2 k).kind

lists_body : (w : ClusterState) (k : Kind) → Stands w → AnswersLists k w.session.server
unfolding Stands
lists_body w k (c, is, followed) =
    let s = w.session.server in
    let size = c.session.window in
    let h = history c in
    record {
      lists = subst (IsListBody k s) (sym (pages_held size s h (unfiltered k None) newest is.session.0))
          (replies_read h size k followed.0 ∙ ap (λ a. Some (listed_of k a)) (sym (same_answers size s h k is.session.0)));
    }

-- ---- the follower that a move found, and the one that it left

module _ (w : ClusterState) (k : Kind) (s : Server) (g : Follower) (found : g ≡ follower k w) (same : s ≡ w.session.server) (is : Stands w) where
  kind_found : g.reflector.kind ≡ k
  kind_found = ap (λ (f : Follower). f.reflector.kind) found ∙ kind_at w k is

  pub lists_at : AnswersLists g.reflector.kind s
  lists_at = subst (λ (t : Server). AnswersLists g.reflector.kind t) (sym same) (subst (λ j. AnswersLists j w.session.server) (sym kind_found) (lists_body w k is))

  -- the move that the follower's kind makes is that of the kind
  pub moved_at : (m : Move) → move_by g.reflector.kind (answers_by g.reflector.kind s) g m ≡ move_by k (answers_by k w.session.server) (follower k w) m
  moved_at m = λ i. move_by (kind_found i) (answers_by (kind_found i) (same i)) (found i) m

-- a follower that is put where it stands changes nothing
put_back : (k : Kind) (w : ClusterState) → with_follower k (follower k w) w ≡ w
put_back ConfigMap w = refl
put_back Pod w = refl
put_back ReplicaSet w = refl
put_back Deployment w = refl

-- ---- what a move makes of the cluster

module _ (w v : ClusterState) (k : Kind) (s : Server) (m : Move) (g f : Follower) (seen : w ≡ v) (found : g ≡ follower k w) (same : s ≡ w.session.server) (is : Stands w) where
  abbrev by_follower : moving.Moved
  by_follower = move_by g.reflector.kind (answers_by g.reflector.kind s) g m

  abbrev by_kind : moving.Moved
  by_kind = move_by k (answers_by k v.session.server) (follower k v) m

  by_both : by_follower ≡ by_kind
  by_both = moved_at w k s g found same is m ∙ (λ i. move_by k (answers_by k (seen i).session.server) (follower k (seen i)) m)

  -- where the move may have been refused
  pub kept_standing : {X E : Type 0} (r : Result X E) → OnOk r (f ≡ by_follower.follower) → OnErr r (f ≡ g) → Stands (with_follower k f w)
  unfolding step
  kept_standing (Ok x) moved stays =
      subst (λ h. Stands (with_follower k h w)) (sym (moved ∙ ap (λ (m : moving.Moved). m.follower) (moved_at w k s g found same is m))) (stood w (moves k m) is)
  kept_standing (Err e) moved stays = subst Stands (sym (ap (λ h. with_follower k h w) (stays ∙ found) ∙ put_back k w)) is

  pub cluster_moved : {X E : Type 0} (r : Result X E) → OnOk r (f ≡ by_follower.follower) → OnOk r (with_follower k f w ≡ with_follower k by_kind.follower v)
  cluster_moved (Ok x) moved = λ i. with_follower k ((moved ∙ ap (λ (m : moving.Moved). m.follower) by_both) i) (seen i)
  cluster_moved (Err e) moved = tt

  pub outcome_moved : {X E : Type 0} (out : X → moving.Outcome) (r : Result X E) → IfOk r (λ o. out o ≡ by_follower.outcome) → IfOk r (λ o. out o ≡ by_kind.outcome)
  outcome_moved out (Ok o) told = told ∙ ap (λ (m : moving.Moved). m.outcome) by_both
  outcome_moved out (Err e) told = tt
