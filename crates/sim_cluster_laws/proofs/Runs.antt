-- Whatever steps are taken: the server's history is reached, and each follower follows it.
use Rattle.std.proofs.Common.{◌≡◌, ◌≤◌, ℕ, List, [], ◌∷◌, codes, refl, sym, ap, subst, arith}
use Rattle.json.proofs.Printed.Utf8.{IsUtf8-are_ascii}
use Rattle.spec_api.specs.declared.kinds.Kind.{Kind}
use Rattle.spec_api.specs.declared.kinds.Kind.TheVariants.{ConfigMap, Pod, ReplicaSet, Deployment}
use Rattle.spec_api.specs.History.{History, compaction}
use Rattle.spec_api.specs.Reached as reached
use Rattle.spec_api.specs.Reached.{IsReached, IsTimestamp, asks, compacts}
use Rattle.spec_api.specs.Replies.{Session, start}
use Rattle.spec_api.specs.Verbs.{accept, write_of}
use Rattle.spec_line_protocol.specs.Lines as lines
use Rattle.spec_line_protocol.specs.Lines.{Line, cut, line_of, session_after}
use Rattle.spec_server.specs.Snapshots.{Snapshot}
use Rattle.spec_laws.proofs.ReadRequests.{IsTimed, timed_from, by_line}
use Rattle.spec_laws.proofs.Runs.{Begins, nothing as none_more, begins-write, begins-entry}
use Rattle.spec_sim.specs.declared.initial_syncs.InitialSync.{InitialSync}
use Rattle.spec_sim.specs.Followers.{Follower, begun}
use Rattle.spec_sim.specs.Moves as moving
use Rattle.spec_sim.specs.Clusters.{Cluster, with_new_followers, opened, history, follower, with_follower, ClusterStep, request, compact, moves, restart, step, run}
use Rattle.spec_sim.proofs.ClusterFollowers.{with_session, with_moved, same_session}
use Rattle.sim_cluster_laws.specs.FollowerLaws.{IsFollowing}
use Rattle.sim_cluster_laws.specs.ClusterLaws.{IsFollowed, StepsKeep, RunsAreFollowed, InformersShowServerLists, NoRestart, PublishedRevisionsRise, RestartsBeginAnew}
use Rattle.sim_cluster_laws.proofs.Growing.{stand}
use Rattle.sim_cluster_laws.proofs.Moving.{moves_follow}
use Rattle.sim_cluster_laws.proofs.Rising.{rise}

-- ---- parts of a cluster

pub begun_follows : (h : History) (i : InitialSync) (k : Kind) → IsFollowing h k (begun i k)
begun_follows h i k =
    record { kind = refl; reached = omega arith; published = refl; passed = omega arith; pending = refl; linked = record { holds = refl; initial = refl } }

-- a property of the follower of each kind, at the beginning
pub at_first : (P : Kind → Follower → Type 0) (i : InitialSync) (s : Session) → ((k : Kind) → P k (begun i k)) → (k : Kind) → P k (follower k (with_new_followers i s))
at_first P i s p ConfigMap = p ConfigMap
at_first P i s p Pod = p Pod
at_first P i s p ReplicaSet = p ReplicaSet
at_first P i s p Deployment = p Deployment

-- ---- the server

-- reached, and what had happened before it goes on
abbrev pub Goes : History → History → Type 0
Goes h g = IsReached g × Begins h g

pub read_on : (s : Session) (l : Line) → IsTimed l → IsReached s.history → IsTimestamp s.moment → IsTimestamp (session_after s l).moment × Goes s.history (session_after s l).history
read_on s l timed reached time =
    by_line (Goes s.history) (λ q h moment read at p. (asks h q moment p.0 read at, begins-write s.history h (write_of (accept q h moment)) p.1))
    (λ h r le p. (compacts h r p.0 le, begins-entry s.history h (compaction r) p.1)) s l timed (time, (reached, ([], none_more s.history)))

-- ---- each step

by_server : (c : Cluster) (l : Line) → IsTimed l → IsFollowed c → IsFollowed (record c { session = session_after c.session l })
by_server c l timed is =
    let on = read_on c.session l timed is.0 is.1 in
    let later : (k : Kind) → IsFollowing (session_after c.session l).history k (follower k c) =
    λ k. subst (λ h. IsFollowing h k (follower k c)) (sym on.1.1.1) (stand k (history c) on.1.1.0 (follower k c) (is.2 k)) in (
      on.1.0,
      on.0,
      with_session (IsFollowing (session_after c.session l).history) c (session_after c.session l) later,
    )

pub keeps : StepsKeep
keeps c (request t) is = by_server c (line_of t) (timed_from (cut t)) is
keeps c (compact r) is = by_server c (lines.compact r) tt is
keeps c (moves k m) is =
    let f = (moving.move k c.session.window (history c) (follower k c) m).follower in
    let here = moves_follow k c.session.window (history c) (follower k c) m is.0 (is.2 k) in
    subst (λ s. IsReached s.history × IsTimestamp s.moment × ((j : Kind) → IsFollowing s.history j (follower j (with_follower k f c)))) (sym (same_session c k f))
    (is.0, is.1, with_moved (IsFollowing (history c)) c k f here is.2)
keeps c restart is = (is.0, is.1, at_first (IsFollowing (history c)) c.initial c.session (begun_follows (history c) c.initial))

-- ---- all steps

pub opens : (size : ℕ) (i : InitialSync) → IsFollowed (opened size i)
opens size i = (reached.opened, (omega arith, omega arith, IsUtf8-are_ascii (codes "2026-01-01T00:00:00Z") refl), at_first (IsFollowing []) i (start size) (begun_follows [] i))

run_keeps : (c : Cluster) (ss : List ClusterStep) → IsFollowed c → IsFollowed (run c ss)
run_keeps c [] is = is
run_keeps c (s ∷ ss) is = run_keeps (step c s).cluster ss (keeps c s is)

pub runs_followed : RunsAreFollowed
runs_followed size i ss = run_keeps (opened size i) ss (opens size i)

pub lists_shown : InformersShowServerLists
lists_shown size i ss k =
    let is = (runs_followed size i ss).2 k in (ap (λ (z : Snapshot). z.members) is.published, omega (arith, is.passed, is.reached))

-- ---- the revisions that are published

module _ (k : Kind) where
  abbrev at : Cluster → ℕ
  at c = (follower k c).informer.published.revision

  rise_server : (c : Cluster) (s : Session) → at c ≤ at (record c { session = s })
  rise_server c s = with_session (λ k f. (follower k c).informer.published.revision ≤ f.informer.published.revision) c s (λ k. omega arith) k

  pub rise_one : (c : Cluster) (s : ClusterStep) → NoRestart (s ∷ []) → IsFollowed c → at c ≤ at (step c s).cluster
  rise_one c (request t) none is = rise_server c (session_after c.session (line_of t))
  rise_one c (compact r) none is = rise_server c (session_after c.session (lines.compact r))
  rise_one c (moves j m) none is =
      with_moved (λ j f. (follower j c).informer.published.revision ≤ f.informer.published.revision) c j (moving.move j c.session.window (history c) (follower j c) m).follower
      (rise j c.session.window (history c) (follower j c) m (is.2 j)) (λ j. omega arith) k
  rise_one c restart none is = absurd none

  first_no : (s : ClusterStep) (ss : List ClusterStep) → NoRestart (s ∷ ss) → NoRestart (s ∷ []) × NoRestart ss
  first_no (request t) ss none = (tt, none)
  first_no (compact r) ss none = (tt, none)
  first_no (moves j m) ss none = (tt, none)
  first_no restart ss none = absurd none

  pub rise_all : (c : Cluster) (ss : List ClusterStep) → NoRestart ss → IsFollowed c → at c ≤ at (run c ss)
  rise_all c [] none is = omega arith
  rise_all c (s ∷ ss) none is =
      let parts = first_no s ss none in
      let here = rise_one c s parts.0 is in
      let later = rise_all (step c s).cluster ss parts.1 (keeps c s is) in omega (arith, here, later)

pub revisions_rise : PublishedRevisionsRise
revisions_rise size i before ss k none = rise_all k (run (opened size i) before) ss none (runs_followed size i before)

-- ---- restarts

pub restarts : RestartsBeginAnew
restarts c k = (at_first (λ k f. f ≡ begun c.initial k) c.initial c.session (λ k. refl) k, refl, refl)
