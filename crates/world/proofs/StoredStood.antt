-- A stored world stands for a control plane, step after step.
use Rattle.std.proofs.Common.{◌≡◌, refl, sym, ap, subst, ℕ, ◌+◌, List, [], ◌∷◌, ◌++◌, length, drop, Bool, true, false}
use Rattle.std.specs.Prelude.{if◌then◌else◌}
use Rattle.spec_api.specs.declared.kinds.Kind.{Kind}
use Rattle.spec_client_go.specs.Informers.{Looks}
use Rattle.spec_client_go.specs.OwedKeys.{keys_of}
use Rattle.spec_client_go.specs.WorkQueues.{WorkKey}
use Rattle.spec_client_go.specs.Boards.{observed, may_tick, ticked}
use Rattle.spec_sim.specs.declared.initial_syncs.InitialSync.{InitialSync}
use Rattle.spec_sim.specs.Clusters as clusters
use Rattle.spec_sim.specs.Clusters.{Cluster, ClusterStep}
use Rattle.spec_sim.specs.Followers.{Follower, Notification}
use Rattle.spec_sim.specs.ControlPlanes as planes
use Rattle.spec_sim.specs.ControlPlanes.{ControlPlane, Step, in_cluster, handle, works, tick, change_of, manager_after, counted, step_in}
use Rattle.spec_sim.specs.Managers.{Manager, Action, Acted, act}
use Rattle.spec_sim.specs.Outcomes.{of_cluster, handled, time}
use Rattle.spec_sim.specs.PodObservations.{observations}
use Rattle.object_keys.specs.declared.per_kind.PerKind.{PerKind}
use Rattle.reconcile_types.specs.Hands.{looks_by}
use Rattle.sim_worker_laws.proofs.Counting.{by_counted}
use Rattle.sim_cluster.specs.Changes.{looks}
use Rattle.sim_cluster.specs.ClusterStates.{ClusterState, follower}
use Rattle.sim_cluster.specs.Standing as stored
use Rattle.sim_cluster.proofs.Stood as cluster
use Rattle.sim_cluster.proofs.Taking.{run_last}
use Rattle.sim_cluster.proofs.Stood.{same_follower, with_same, outcomes_same, stands_for_opened}
use Rattle.sim_manager.specs.Reached.{client_of, after_request}
use Rattle.world.proofs.Reaching.{same_client, request_follows}
use Rattle.world.specs.StoredStanding.{StandsFor, Stands}
use Rattle.world.specs.StoredStates.{StoredState, Stepped, opened, closed, step_cluster, owed, handle_in, after_action, tick_in, step, run}

-- the world stands for the control plane, and the same is told of both
abbrev Goes : Stepped → planes.Stepped → Type 0
Goes v q = StandsFor v.world q.plane × (v.outcome ≡ q.outcome)

-- ---- steps of the cluster

clustered : (w : StoredState) (p : ControlPlane) (s : ClusterStep) → StandsFor w p → Goes (step_cluster s w) (planes.step_cluster s p)
clustered w p s is = (
  record { cluster = cluster.steps_follow w.cluster p.cluster s is.cluster; manager = ap (manager_after s) is.manager },
  ap of_cluster (outcomes_same w.cluster p.cluster s is.cluster),
)

-- ---- a change is handled

same_looks : (w : ClusterState) (c : Cluster) → stored.StandsFor w c → looks w ≡ clusters.looks c
same_looks w c is = ap (λ (fs : PerKind Follower). looks_by (λ (f : Follower). f.informer.published.members) fs) is.followers

pub same_owed : (w : ClusterState) (c : Cluster) (n : Notification) → stored.StandsFor w c → owed w n ≡ planes.owed c n
same_owed w c n is = ap (λ (l : Looks). keys_of (change_of n.shift) l) (same_looks w c is)

handled_in : (w : StoredState) (p : ControlPlane) (k : Kind) (ns : List Notification) → (follower k w.cluster).unhandled ≡ ns → StandsFor w p → Goes (handle_in k ns w) (planes.handle_in k ns p)
handled_in w p k [] here is = (is, refl)
handled_in w p k (n ∷ rest) here is =
    let same : owed w.cluster n ≡ planes.owed p.cluster n = same_owed w.cluster p.cluster n is.cluster in
    let left : record (follower k w.cluster) { unhandled = drop 1 (follower k w.cluster).unhandled } ≡ record (clusters.follower k p.cluster) { unhandled = rest } =
    λ i. record (same_follower w.cluster p.cluster is.cluster k i) { unhandled = drop 1 (here i) } in (
      record {
        cluster = with_same w.cluster p.cluster k (record (follower k w.cluster) { unhandled = drop 1 (follower k w.cluster).unhandled }) (record (clusters.follower k p.cluster) { unhandled = rest }) is.cluster left;
        manager = λ i. record (is.manager i) { board = observed (observations n) (same i) (is.manager i).board };
      },
      ap (λ (ks : List WorkKey). handled k (length ks)) same,
    )

handled_oldest : (w : StoredState) (p : ControlPlane) (k : Kind) → StandsFor w p
    → Goes (handle_in k (follower k w.cluster).unhandled w) (planes.handle_in k (clusters.follower k p.cluster).unhandled p)
handled_oldest w p k is =
    let same : (follower k w.cluster).unhandled ≡ (clusters.follower k p.cluster).unhandled = ap (λ (f : Follower). f.unhandled) (same_follower w.cluster p.cluster is.cluster k) in
    subst (λ ns. Goes (handle_in k (follower k w.cluster).unhandled w) (planes.handle_in k ns p)) same (handled_in w p k (follower k w.cluster).unhandled refl is)

-- ---- a worker acts, and time passes

acted : (w : StoredState) (p : ControlPlane) (n : ℕ) (a : Action) → StandsFor w p
    → Goes (after_action (act (client_of w.cluster) n a w.manager) w) (planes.after_action (act (planes.client p.cluster) n a p.manager) p)
acted w p n a is =
    let one : Acted = act (client_of w.cluster) n a w.manager in
    let same : act (client_of w.cluster) n a w.manager ≡ act (planes.client p.cluster) n a p.manager = λ i. act (same_client w.cluster p.cluster is.cluster i) n a (is.manager i) in (
      record {
        cluster = subst (λ (b : Acted). stored.StandsFor (after_request one.request w.cluster) (planes.after_request b.request p.cluster)) same (request_follows w.cluster p.cluster one.request is.cluster);
        manager = ap (λ (b : Acted). b.manager) same;
      },
      ap (λ (b : Acted). b.outcome) same,
    )

ticked_as : (w : StoredState) (p : ControlPlane) (n : ℕ) (b : Bool) → StandsFor w p
    → Goes
    (if b then record { world = record w { manager = record w.manager { board = ticked n w.manager.board } }; outcome = time (w.manager.board.time + n) } else closed w)
    (if b then record { plane = record p { manager = record p.manager { board = ticked n p.manager.board } }; outcome = time (p.manager.board.time + n) } else planes.closed p)
ticked_as w p n true is = (record { cluster = is.cluster; manager = ap (λ (m : Manager). record m { board = ticked n m.board }) is.manager }, ap (λ (m : Manager). time (m.board.time + n)) is.manager)
ticked_as w p n false is = (is, refl)

ticks : (w : StoredState) (p : ControlPlane) (n : ℕ) → StandsFor w p → Goes (tick_in n w) (planes.tick_in n p)
ticks w p n is =
    subst
    (λ b. Goes (tick_in n w) (if b then record { plane = record p { manager = record p.manager { board = ticked n p.manager.board } }; outcome = time (p.manager.board.time + n) } else planes.closed p))
    (ap (λ (m : Manager). may_tick n m.board) is.manager) (ticked_as w p n (may_tick n w.manager.board) is)

-- ---- one step after another

goes_in : (w : StoredState) (p : ControlPlane) (s : Step) → StandsFor w p → Goes (step w s) (step_in p s)
unfolding step
goes_in w p (in_cluster s) is = clustered w p s is
goes_in w p (handle k) is = handled_oldest w p k is
goes_in w p (works n a) is = acted w p n a is
goes_in w p (tick n) is = ticks w p n is

-- steps that were open are counted by the control plane alone
goes_counted : (v : Stepped) (q : planes.Stepped) → Goes v q → Goes v (counted q)
goes_counted v q is =
    let all = by_counted (λ c m o. stored.StandsFor v.world.cluster c × (v.world.manager ≡ m) × (v.outcome ≡ o)) q (is.0.cluster, is.0.manager, is.1) in
    (record { cluster = all.0; manager = all.1 }, all.2)

pub step_follows : (w : StoredState) (p : ControlPlane) (s : Step) → StandsFor w p → Goes (step w s) (planes.step p s)
step_follows w p s is = goes_counted (step w s) (step_in p s) (goes_in w p s is)

pub run_follows : (w : StoredState) (p : ControlPlane) (ss : List Step) → StandsFor w p → StandsFor (run w ss) (planes.run p ss)
run_follows w p [] is = is
run_follows w p (s ∷ ss) is = run_follows (step w s).world (planes.step p s).plane ss (step_follows w p s is).0

-- ---- what it stands for stays so

pub stands_for_begun : (window workers : ℕ) (initial : InitialSync) → StandsFor (opened window workers initial) (planes.opened window workers initial)
stands_for_begun window workers initial = record { cluster = stands_for_opened window initial; manager = refl }

pub stands_opened : (window workers : ℕ) (initial : InitialSync) → Stands (opened window workers initial)
unfolding Stands
stands_opened window workers initial = (window, workers, initial, [], stands_for_begun window workers initial)

pub stood : (w : StoredState) (s : Step) → Stands w → Stands (step w s).world
unfolding Stands
stood w s (window, workers, initial, steps, is) = (
  window,
  workers,
  initial,
  steps ++ s ∷ [],
  subst (StandsFor (step w s).world) (sym (run_last (λ q r. (planes.step q r).plane) planes.run (λ _. refl) (λ _ _ _. refl) (planes.opened window workers initial) steps s)) (step_follows w (planes.run (planes.opened window workers initial) steps) s is).0,
)

pub run_stood : (w : StoredState) (ss : List Step) → Stands w → Stands (run w ss)
run_stood w [] is = is
run_stood w (s ∷ ss) is = run_stood (step w s).world ss (stood w s is)

-- a cluster and a manager that are those after a step
pub stands_stepped : (w : StoredState) (s : Step) (c : ClusterState) (m : Manager) → c ≡ (step w s).world.cluster → m ≡ (step w s).world.manager → Stands w → Stands (record { cluster = c; manager = m })
stands_stepped w s c m clusters managers is = subst Stands (λ i. record { cluster = sym clusters i; manager = sym managers i }) (stood w s is)
