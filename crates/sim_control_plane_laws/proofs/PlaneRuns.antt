-- Whatever steps are taken: the server's history is reached, each follower follows it, and workers look at what its lists were.
use Rattle.std.proofs.Common.{◌≡◌, ℕ, List, [], ◌∷◌, ◌++◌, Option, Some, None, IfSome, refl, sym, ap, ◌∙◌, subst, arith, append_assoc}
use Rattle.std.specs.List.{AllByRecursion}
use Rattle.spec_api.specs.declared.kinds.Kind.{Kind}
use Rattle.spec_api.specs.History.{History}
use Rattle.spec_api.specs.ObjectRequests.{Request}
use Rattle.spec_api.specs.Reached.{IsReached, IsTimestamp, CanBeRead, asks}
use Rattle.spec_api.specs.Verbs.{accept, history_after, write_of}
use Rattle.spec_laws.proofs.Runs.{Begins, nothing, begins-write}
use Rattle.spec_server.specs.Snapshots.{Snapshot}
use Rattle.spec_sim.specs.declared.initial_syncs.InitialSync.{InitialSync}
use Rattle.spec_sim.specs.Clusters.{Cluster, history, follower, with_follower, request, compact, moves, restart}
use Rattle.spec_sim.specs.Followers.{Follower, Notification}
use Rattle.sim_cluster_laws.specs.ClusterLaws.{IsFollowed, ShowsServerLists}
use Rattle.sim_cluster_laws.specs.FollowerLaws.{IsFollowing}
use Rattle.sim_cluster_laws.proofs.Growing.{stand}
use Rattle.sim_cluster_laws.proofs.Runs.{keeps, opens}
use Rattle.spec_sim.proofs.ClusterFollowers.{with_moved, with_session, same_session}
use Rattle.spec_sim.specs.ControlPlanes.{ControlPlane, Step, in_cluster, handle, works, tick, opened, client, after_request, handle_in, step_in, step, run}
use Rattle.spec_sim.specs.Managers.{Manager, Issued, act}
use Rattle.spec_sim.specs.Turns.{Sight, looked, satisfied}
use Rattle.sim_worker_laws.specs.IssuedLaws.{WasPublished, WasThere, IsSeen, IsNext}
use Rattle.sim_worker_laws.proofs.Counting.{by_counted, by_tick}
use Rattle.sim_worker_laws.proofs.Following.{AllFollow, act_follows, none_begun, none_restarted}
use Rattle.sim_worker_laws.proofs.Growing.{step_begins}
use Rattle.sim_worker_laws.proofs.IssuedRuns.{issued_next}
use Rattle.sim_worker_laws.proofs.Lists.{all_map}
use Rattle.sim_control_plane_laws.specs.PlaneLaws.{PlanesAreFollowed, InformersShowServerLists, IsServerList, LooksAreServerLists}
use Rattle.sim_control_plane_laws.proofs.Asking.{IsStoredLook, IsStoredRead, asks_readable}
use Rattle.sim_control_plane_laws.proofs.StoredLists.{listed_stored, listed_few, found_parsed}

-- ---- the cluster after a step

-- a request that can be read of bytes
asked_follows : (o : Option Request) (c : Cluster) → IfSome o CanBeRead → IsFollowed c → IsFollowed (after_request o c)
asked_follows None c read is = is
asked_follows (Some q) c read is =
    let s = record c.session { history = history_after (history c) (accept q (history c) c.session.moment) } in
    let more = begins-write (history c) (history c) (write_of (accept q (history c) c.session.moment)) ([], nothing (history c)) in
    let later : (k : Kind) → IsFollowing s.history k (follower k c) = λ k. subst (λ h. IsFollowing h k (follower k c)) (sym more.1) (stand k (history c) more.0 (follower k c) (is.2 k)) in
    (asks (history c) q c.session.moment is.0 read is.1, is.1, with_session (IsFollowing s.history) c s later)

-- what is handled makes no difference
same_follows : (h : History) (k : Kind) (f : Follower) (ns : List Notification) → IsFollowing h k f → IsFollowing h k (record f { unhandled = ns })
same_follows h k f ns is = record { kind = is.kind; reached = is.reached; published = is.published; passed = is.passed; pending = is.pending; linked = is.linked }

handled_follows : (k : Kind) (ns : List Notification) (p : ControlPlane) → IsFollowed p.cluster → IsFollowed (handle_in k ns p).plane.cluster
handled_follows k [] p is = is
handled_follows k (n ∷ ns) p is =
    let c = p.cluster in
    let f = record (follower k c) { unhandled = ns } in
    subst (λ s. IsReached s.history × IsTimestamp s.moment × ((j : Kind) → IsFollowing s.history j (follower j (with_follower k f c)))) (sym (same_session c k f))
    (is.0, is.1, with_moved (IsFollowing (history c)) c k f (same_follows (history c) k (follower k c) ns (is.2 k)) is.2)

-- ---- what workers see of it

looks_stored : (c : Cluster) → IsFollowed c → (k : Kind) → IsStoredLook k (follower k c).informer.published
looks_stored c is k =
    let s = (follower k c).informer.published in
    subst (IsStoredLook k) (sym (is.2 k).published) (listed_stored (history c) k s.revision is.0, listed_few (history c) k s.revision is.0)

-- ---- each step

abbrev pub Well : Cluster → Manager → Type 0
Well c m = IsFollowed c × AllFollow IsStoredLook IsStoredRead m

well_handle : (k : Kind) (ns : List Notification) (p : ControlPlane) → Well p.cluster p.manager → Well (handle_in k ns p).plane.cluster (handle_in k ns p).plane.manager
well_handle k [] p is = is
well_handle k (n ∷ ns) p is = (handled_follows k (n ∷ ns) p is.0, is.1)

well_in : (p : ControlPlane) (s : Step) → Well p.cluster p.manager → Well (step_in p s).plane.cluster (step_in p s).plane.manager
well_in p (in_cluster (request t)) is = (keeps p.cluster (request t) is.0, is.1)
well_in p (in_cluster (compact r)) is = (keeps p.cluster (compact r) is.0, is.1)
well_in p (in_cluster (moves k m)) is = (keeps p.cluster (moves k m) is.0, is.1)
well_in p (in_cluster restart) is = (keeps p.cluster restart is.0, (none_restarted IsStoredLook IsStoredRead p.manager.turns, is.1.1))
well_in p (handle k) is = well_handle k (follower k p.cluster).unhandled p is
well_in p (works w a) is = (
  asked_follows (act (client p.cluster) w a p.manager).request p.cluster (asks_readable (client p.cluster) w a p.manager is.1) is.0,
  act_follows IsStoredLook IsStoredRead (client p.cluster) (λ k. found_parsed (history p.cluster) k is.0.0) w a p.manager (λ t here. looks_stored p.cluster is.0) is.1,
)
well_in p (tick n) is = by_tick (λ c m o. Well c m) n p is is

pub well_step : (p : ControlPlane) (s : Step) → Well p.cluster p.manager → Well (step p s).plane.cluster (step p s).plane.manager
well_step p s is = by_counted (λ c m o. Well c m) (step_in p s) (well_in p s is)

run_well : (p : ControlPlane) (ss : List Step) → Well p.cluster p.manager → Well (run p ss).cluster (run p ss).manager
run_well p [] is = is
run_well p (s ∷ ss) is = run_well (step p s).plane ss (well_step p s is)

pub all_well : (window workers : ℕ) (initial : InitialSync) (steps : List Step) → Well (run (opened window workers initial) steps).cluster (run (opened window workers initial) steps).manager
all_well window workers initial steps = run_well (opened window workers initial) steps (opens window initial, (none_begun IsStoredLook IsStoredRead workers, tt))

pub followed : PlanesAreFollowed
followed window workers initial steps = (all_well window workers initial steps).0

-- ---- what is published

shown_lists : (c : Cluster) → IsFollowed c → ShowsServerLists c
shown_lists c is k = let f = is.2 k in (ap (λ (z : Snapshot). z.members) f.published, omega (arith, f.passed, f.reached))

pub lists_shown : InformersShowServerLists
lists_shown window workers initial steps = shown_lists (run (opened window workers initial) steps).cluster (followed window workers initial steps)

-- ---- what was looked at

onward : (h middle last : History) → Begins h middle → Begins middle last → Begins h last
onward h middle last a b = (a.0 ++ b.0, b.1 ∙ ap (λ x. x ++ b.0) a.1 ∙ append_assoc h a.0 b.0)

run_begins : (p : ControlPlane) (ss : List Step) → Begins (history p.cluster) (history (run p ss).cluster)
run_begins p [] = ([], nothing (history p.cluster))
run_begins p (s ∷ ss) = onward (history p.cluster) (history (step p s).plane.cluster) (history (run (step p s).plane ss).cluster) (step_begins p s) (run_begins (step p s).plane ss)

pub run_append : (p : ControlPlane) (ss ts : List Step) → run p (ss ++ ts) ≡ run (run p ss) ts
run_append p [] ts = refl
run_append p (s ∷ ss) ts = run_append (step p s).plane ss ts

module _ (window workers : ℕ) (initial : InitialSync) (steps : List Step) where
  pub look_listed : (k : Kind) (s : Snapshot) → WasPublished (opened window workers initial) steps k s → IsServerList (history (run (opened window workers initial) steps).cluster) k s
  look_listed k s x =
      let v = opened window workers initial in
      let q = run v x.0 in
      let f = follower k q.cluster in
      let b = run_begins q x.1 in
      let stood = stand k (history q.cluster) b.0 f ((followed window workers initial x.0).2 k) in
      let here : IsServerList (history q.cluster ++ b.0) k f.informer.published = (ap (λ (z : Snapshot). z.members) stood.published, omega (arith, stood.passed, stood.reached)) in
      let all : run v steps ≡ run q x.1 = ap (run v) x.2 ∙ run_append v x.0 x.1 in
      let now : IsServerList (history (run v steps).cluster) k f.informer.published =
      subst (λ h. IsServerList h k f.informer.published) (sym (ap (λ (p : ControlPlane). history p.cluster) all ∙ b.1)) here in
      subst (IsServerList (history (run v steps).cluster) k) (sym x.3.0) now

  seen_listed : (s : Sight) → IsSeen (WasPublished (opened window workers initial) steps) s → IsSeen (IsServerList (history (run (opened window workers initial) steps).cluster)) s
  seen_listed (looked k s) x = look_listed k s x
  seen_listed (satisfied b) x = tt

  each_listed : (i : Issued) → IsNext (WasPublished (opened window workers initial) steps) (WasThere (history (run (opened window workers initial) steps).cluster)) i.turn i.command
      → AllByRecursion (IsSeen (IsServerList (history (run (opened window workers initial) steps).cluster))) i.turn.sights
  each_listed i n =
      all_map (IsSeen (WasPublished (opened window workers initial) steps)) (IsSeen (IsServerList (history (run (opened window workers initial) steps).cluster))) seen_listed i.turn.sights n.looks

pub looks_listed : LooksAreServerLists
looks_listed window workers initial steps =
    let p = run (opened window workers initial) steps in
    all_map (λ (i : Issued). IsNext (WasPublished (opened window workers initial) steps) (WasThere (history p.cluster)) i.turn i.command)
    (λ (i : Issued). AllByRecursion (IsSeen (IsServerList (history p.cluster))) i.turn.sights) (each_listed window workers initial steps) p.manager.issued (issued_next window workers initial steps)
