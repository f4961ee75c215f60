-- Whatever steps a control plane takes, the deltas that wait lead from list to list and skip nothing.
use Rattle.std.proofs.Common.{◌≡◌, ◌==◌, ℕ, List, [], ◌∷◌, Bool, true, false, cond, Option, Some, None, refl, sym, ap, ◌∙◌, subst}
use mathlib.Core.Bool.{true≢false}
use Rattle.spec_api.specs.declared.kinds.Kind.{Kind}
use Rattle.spec_api.specs.History.{History}
use Rattle.spec_api.specs.ObjectRequests.{Request}
use Rattle.spec_api.specs.Replies.{start}
use Rattle.spec_api.specs.Verbs.{accept, history_after, write_of}
use Rattle.spec_laws.proofs.Runs.{nothing, begins-write}
use Rattle.spec_line_protocol.specs.Lines as lines
use Rattle.spec_line_protocol.specs.Lines.{line_of, session_after}
use Rattle.spec_server.specs.Snapshots.{Snapshot}
use Rattle.spec_sim.specs.declared.initial_syncs.InitialSync.{InitialSync}
use Rattle.spec_sim.specs.Clusters.{Cluster, ClusterStep, history, follower, with_follower, request, compact, moves, restart}
use Rattle.spec_sim.specs.Followers.{Follower, Notification, begun}
use Rattle.spec_sim.specs.Moves as moving
use Rattle.spec_sim.specs.Moves.{Move, answers_after, move_by, closed, publish_now}
use Rattle.spec_sim.specs.ControlPlanes.{ControlPlane, Step, in_cluster, handle, works, tick, opened, client, after_request, handle_in, step_in, step, run}
use Rattle.spec_sim.specs.Managers.{act}
use Rattle.spec_sim.proofs.ClusterFollowers.{with_session, with_moved, same_session}
use Rattle.sim_worker_laws.proofs.Counting.{by_counted, by_tick}
use Rattle.sim_cluster_laws.specs.ClusterLaws.{IsFollowed}
use Rattle.sim_cluster_laws.specs.FollowerLaws.{IsFollowing}
use Rattle.sim_cluster_laws.specs.LeadLaws.{IsLed}
use Rattle.sim_cluster_laws.specs.PassLaws.{IsPassed}
use Rattle.sim_cluster_laws.proofs.Leading.{leads_past}
use Rattle.sim_cluster_laws.proofs.LeadRuns.{AreLed, lead_on}
use Rattle.sim_cluster_laws.proofs.Passing.{passes_past}
use Rattle.sim_cluster_laws.proofs.PassRuns.{ArePassed, pass_on}
use Rattle.sim_cluster_laws.proofs.Runs.{at_first}
use Rattle.sim_control_plane_laws.proofs.PlaneRuns.{Well, well_step, all_well, followed, lists_shown}
use Rattle.sim_rest_laws.specs.WholeLaws.{RunsAreReached, RunsShowLists}
use Rattle.sim_rest_laws.proofs.ShiftRuns.{unpublished}
use Rattle.sim_rest_plane_laws.specs.PlanePassLaws.{PlanesPass, ListedNames}

-- where the first list was published, what is published names a revision
abbrev pub Names : Kind → Follower → Type 0
Names k f = f.has_listed ≡ true → f.informer.published.revision ≡ 0 → ⊥

abbrev pub AreNamed : Cluster → Type 0
AreNamed c = (k : Kind) → Names k (follower k c)

abbrev pub All : Cluster → Type 0
All c = AreLed c × ArePassed c × AreNamed c

-- ---- the server

asked : (o : Option Request) (c : Cluster) → All c → All (after_request o c)
asked None c all = all
asked (Some q) c all =
    let s = record c.session { history = history_after (history c) (accept q (history c) c.session.moment) } in
    let more = begins-write (history c) (history c) (write_of (accept q (history c) c.session.moment)) ([], nothing (history c)) in (
      with_session (IsLed s.history) c s
          (λ k. subst (λ h. IsLed h k (follower k c)) (sym more.1) (leads_past (history c) more.0 k (follower k c).informer.published (follower k c).informer.pending (all.0 k))),
      with_session (IsPassed s.history) c s
          (λ k. subst (λ h. IsPassed h k (follower k c)) (sym more.1) (passes_past (history c) more.0 k (follower k c).informer.published (follower k c).informer.pending (all.0 k) (all.1 k))),
      with_session Names c s all.2,
    )

handled : (k : Kind) (ns : List Notification) (p : ControlPlane) → All p.cluster → All (handle_in k ns p).plane.cluster
handled k [] p all = all
handled k (n ∷ ns) p all =
    let c = p.cluster in
    let f = record (follower k c) { unhandled = ns } in (
      subst (λ s. (j : Kind) → IsLed s.history j (follower j (with_follower k f c))) (sym (same_session c k f)) (with_moved (IsLed (history c)) c k f (all.0 k) all.0),
      subst (λ s. (j : Kind) → IsPassed s.history j (follower j (with_follower k f c))) (sym (same_session c k f)) (with_moved (IsPassed (history c)) c k f (all.1 k) all.1),
      with_moved Names c k f (all.2 k) all.2,
    )

-- ---- revisions that are named

named_publish : (h : History) (k : Kind) (f : Follower) (b : Bool) → (f.reflector.revision == 0) ≡ b → IsFollowing h k f → Names k f → Names k (cond b (closed f) (publish_now k f)).follower
named_publish h k f true e is named = named
named_publish h k f false e is named = λ listed zero. true≢false (sym (is_zero f.reflector.revision (sym (ap (λ (s : Snapshot). s.revision) is.pending) ∙ zero)) ∙ e)
  where
    is_zero : (n : ℕ) → n ≡ 0 → (n == 0) ≡ true
    is_zero n z = ap (λ x. x == 0) z

named_move : (h : History) (size : ℕ) (k : Kind) (f : Follower) (m : Move) → IsFollowing h k f → Names k f → Names k (moving.move k size h f m).follower
named_move h size k f moving.publish is named = named_publish h k f (f.reflector.revision == 0) refl is named
named_move h size k f moving.list is named = unpublished (λ s b. b ≡ true → s.revision ≡ 0 → ⊥) k (answers_after k size h) f named moving.list tt
named_move h size k f moving.watch is named = unpublished (λ s b. b ≡ true → s.revision ≡ 0 → ⊥) k (answers_after k size h) f named moving.watch tt
named_move h size k f moving.stream is named = unpublished (λ s b. b ≡ true → s.revision ≡ 0 → ⊥) k (answers_after k size h) f named moving.stream tt
named_move h size k f (moving.send n) is named = unpublished (λ s b. b ≡ true → s.revision ≡ 0 → ⊥) k (answers_after k size h) f named (moving.send n) tt
named_move h size k f moving.send_bookmark is named = unpublished (λ s b. b ≡ true → s.revision ≡ 0 → ⊥) k (answers_after k size h) f named moving.send_bookmark tt
named_move h size k f (moving.deliver n) is named = unpublished (λ s b. b ≡ true → s.revision ≡ 0 → ⊥) k (answers_after k size h) f named (moving.deliver n) tt
named_move h size k f moving.deliver_all is named = unpublished (λ s b. b ≡ true → s.revision ≡ 0 → ⊥) k (answers_after k size h) f named moving.deliver_all tt
named_move h size k f moving.cut is named = unpublished (λ s b. b ≡ true → s.revision ≡ 0 → ⊥) k (answers_after k size h) f named moving.cut tt

none_listed : (p : ControlPlane) (k : Kind) → Names k (begun p.cluster.initial k)
none_listed p k = λ listed zero. true≢false (sym listed)

named_on : (p : ControlPlane) (s : ClusterStep) → IsFollowed p.cluster → AreNamed p.cluster → AreNamed (step_in p (in_cluster s)).plane.cluster
named_on p (request t) is named = with_session Names p.cluster (session_after p.cluster.session (line_of t)) named
named_on p (compact r) is named = with_session Names p.cluster (session_after p.cluster.session (lines.compact r)) named
named_on p (moves k m) is named =
    let c = p.cluster in
    with_moved Names c k (moving.move k c.session.window (history c) (follower k c) m).follower (named_move (history c) c.session.window k (follower k c) m (is.2 k) (named k)) named
named_on p restart is named = at_first Names p.cluster.initial p.cluster.session (none_listed p)

-- ---- all steps

all_in : (p : ControlPlane) (s : Step) → IsFollowed p.cluster → All p.cluster → All (step_in p s).plane.cluster
all_in p (in_cluster s) is all = (lead_on p.cluster s is all.0, pass_on p.cluster s is all.0 all.1, named_on p s is all.2)
all_in p (handle k) is all = handled k (follower k p.cluster).unhandled p all
all_in p (works w a) is all = asked (act (client p.cluster) w a p.manager).request p.cluster all
all_in p (tick n) is all = by_tick (λ c m o. All c) n p all all

run_all : (p : ControlPlane) (ss : List Step) → Well p.cluster p.manager → All p.cluster → All (run p ss).cluster
run_all p [] is all = all
run_all p (s ∷ ss) is all = run_all (step p s).plane ss (well_step p s is) (by_counted (λ c m o. All c) (step_in p s) (all_in p s is.0 all))

pub all_of : (window workers : ℕ) (initial : InitialSync) (steps : List Step) → All (run (opened window workers initial) steps).cluster
all_of window workers initial steps =
    run_all (opened window workers initial) steps (all_well window workers initial [])
    (at_first (IsLed []) initial (start window) (λ k. tt), at_first (IsPassed []) initial (start window) (λ k. tt), at_first Names initial (start window) (none_listed (opened window workers initial)))

pub planes_pass : PlanesPass
planes_pass window workers initial steps = (all_of window workers initial steps).1

pub listed_names : ListedNames
listed_names window workers initial steps = (all_of window workers initial steps).2

pub all_reached : RunsAreReached
all_reached window workers initial steps = (followed window workers initial steps).0

pub show_lists : RunsShowLists
show_lists window workers initial steps k = lists_shown window workers initial steps k
