-- What a step makes of a world, by what it makes of its cluster and of its manager.
use Rattle.std.proofs.Common.{◌≡◌, refl, sym, ap, ap₂, subst, ◌∙◌, ℕ, ◌+◌, List, [], ◌∷◌, map, length, Bool, true, false, Some, None}
use Rattle.std.specs.List.{slice_get}
use Rattle.std.specs.Prelude.{if◌then◌else◌}
use Rattle.std.proofs.lemmas.List.{length-map}
use Rattle.spec_api.specs.declared.kinds.Kind.{Kind}
use Rattle.spec_client_go.specs.WorkQueues as queues
use Rattle.spec_client_go.specs.Boards.{Observation, observed, may_tick, passed, ticked}
use Rattle.spec_sim.specs.declared.initial_syncs.InitialSync.{InitialSync}
use Rattle.spec_sim.specs.Clusters.{ClusterStep}
use Rattle.spec_sim.specs.Followers.{Notification}
use Rattle.spec_sim.specs.ControlPlanes.{in_cluster, handle, works, tick, manager_after}
use Rattle.spec_sim.specs.Managers as managers
use Rattle.spec_sim.specs.Managers.{Manager, Action, Acted, act}
use Rattle.spec_sim.specs.Outcomes as outcomes
use Rattle.spec_sim.specs.Outcomes.{time}
use Rattle.spec_sim.specs.PodObservations.{observations}
use Rattle.sim_cluster.specs.Changes.{without_oldest}
use Rattle.sim_cluster.specs.ClusterStates as clusters
use Rattle.sim_cluster.specs.ClusterStates.{ClusterState, follower}
use Rattle.sim_manager.specs.Reached.{client_of, after_request}
use Rattle.sim_steps.specs.Steps.{step_of}
use Rattle.sim_steps.specs.declared.steps.Step as code
use Rattle.sim_steps.specs.declared.steps.Step.TheVariants.{Request, Compact, Moves, Restart}
use Rattle.object_keys.specs.WorkKeys.{work_key_of}
use Rattle.object_keys.specs.declared.work_key.WorkKey.{WorkKey}
use Rattle.world.proofs.StoredStood.{stands_opened, stood}
use Rattle.world.specs.StoredStanding.{Stands}
use Rattle.world.specs.StoredStates.{StoredState, closed, owed, handle_in, step}

-- a cluster and a manager
abbrev pub world_of : ClusterState → Manager → StoredState
world_of c m = record { cluster = c; manager = m }

pub stands_begun : (window workers : ℕ) (initial : InitialSync) (c : ClusterState) (m : Manager) → c ≡ clusters.opened window initial → m ≡ managers.begun workers → Stands (world_of c m)
stands_begun window workers initial c m cs ms = subst Stands (λ i. world_of (sym cs i) (sym ms i)) (stands_opened window workers initial)

-- ---- steps of the cluster

pub restarted_after : (s : code.Step) (old new : Manager) → s ≡ Restart → new ≡ managers.restarted old → new ≡ manager_after (step_of s) old
restarted_after s old new is made = made ∙ ap (λ t. manager_after (step_of t) old) (sym is)

pub kept_after : (s : code.Step) (m : Manager) → (s ≡ Restart → ⊥) → m ≡ manager_after (step_of s) m
kept_after (Request t) m none = refl
kept_after (Compact r) m none = refl
kept_after (Moves k v) m none = refl
kept_after Restart m none = absurd (none refl)

pub stands_clustered : (w : StoredState) (s : ClusterStep) (c : ClusterState) (m : Manager) → c ≡ (clusters.step w.cluster s).cluster → m ≡ manager_after s w.manager → Stands w → Stands (world_of c m)
unfolding step
stands_clustered w s c m cs ms is = subst Stands (λ i. world_of (sym cs i) (sym ms i)) (stood w (in_cluster s) is)

-- ---- a change is handled

same_oldest : (n x : Notification) (ns : List Notification) → Some n ≡ slice_get (x ∷ ns) 0 → n ≡ x
same_oldest n x ns at = let both : Some n ≡ Some x = at in cc

none_oldest : (n : Notification) → Some n ≡ slice_get [] 0 → ⊥
none_oldest n at = let both : Some n ≡ None = at in cc

-- what it makes of the manager
abbrev noted : Manager → ClusterState → Notification → Manager
noted m c n = record m { board = observed (observations n) (owed c n) m.board }

pub noted_as : (m new : Manager) (c : ClusterState) (n : Notification) (seen : List Observation) (keys : List queues.WorkKey) → seen ≡ observations n → keys ≡ owed c n
    → new ≡ record m { board = observed seen keys m.board } → new ≡ noted m c n
noted_as m new c n seen keys shows owes made = made ∙ ap₂ (λ os ks. record m { board = observed os ks m.board }) shows owes

handled_in : (w : StoredState) (k : Kind) (n : Notification) (ns : List Notification) → Some n ≡ slice_get ns 0
    → world_of (without_oldest k w.cluster) (noted w.manager w.cluster n) ≡ (handle_in k ns w).world
handled_in w k n [] at = absurd (none_oldest n at)
handled_in w k n (x ∷ ns) at = ap (λ y. world_of (without_oldest k w.cluster) (noted w.manager w.cluster y)) (same_oldest n x ns at)

pub handled_world : (w v : StoredState) (k : Kind) (n : Notification) (c : ClusterState) (m : Manager) → w ≡ v → Some n ≡ slice_get (follower k w.cluster).unhandled 0 → c ≡ without_oldest k w.cluster
    → m ≡ noted w.manager w.cluster n → world_of c m ≡ (handle_in k (follower k v.cluster).unhandled v).world
handled_world w v k n c m same at cs ms =
    (λ i. world_of (cs i) (ms i)) ∙ handled_in w k n (follower k w.cluster).unhandled at ∙ ap (λ (u : StoredState). (handle_in k (follower k u.cluster).unhandled u).world) same

pub stands_handled : (w : StoredState) (k : Kind) (n : Notification) (c : ClusterState) (m : Manager) → Some n ≡ slice_get (follower k w.cluster).unhandled 0 → c ≡ without_oldest k w.cluster
    → m ≡ noted w.manager w.cluster n → Stands w → Stands (world_of c m)
unfolding step
stands_handled w k n c m at cs ms is = subst Stands (sym (handled_world w w k n c m refl at cs ms)) (stood w (handle k) is)

told_in : (w : StoredState) (k : Kind) (n : Notification) (ns : List Notification) → Some n ≡ slice_get ns 0 → outcomes.handled k (length (owed w.cluster n)) ≡ (handle_in k ns w).outcome
told_in w k n [] at = absurd (none_oldest n at)
told_in w k n (x ∷ ns) at = ap (λ y. outcomes.handled k (length (owed w.cluster y))) (same_oldest n x ns at)

pub handled_told : (w v : StoredState) (k : Kind) (n : Notification) (keys : List WorkKey) (o : outcomes.Outcome) (count : ℕ) → w ≡ v → Some n ≡ slice_get (follower k w.cluster).unhandled 0 → count ≡ length keys
    → map work_key_of keys ≡ owed w.cluster n → o ≡ outcomes.handled k count → o ≡ (handle_in k (follower k v.cluster).unhandled v).outcome
handled_told w v k n keys o count same at counts owes told =
    let all : count ≡ length (owed w.cluster n) = counts ∙ sym (length-map keys work_key_of) ∙ ap length owes in
    told ∙ ap (outcomes.handled k) all ∙ told_in w k n (follower k w.cluster).unhandled at ∙ ap (λ (u : StoredState). (handle_in k (follower k u.cluster).unhandled u).outcome) same

none_in : (w : StoredState) (k : Kind) (ns : List Notification) → None ≡ slice_get ns 0 → w ≡ (handle_in k ns w).world
none_in w k [] at = refl
none_in w k (x ∷ ns) at = absurd (let both : None ≡ Some x = at in cc)

pub none_handled : (w v : StoredState) (k : Kind) → w ≡ v → None ≡ slice_get (follower k w.cluster).unhandled 0 → v ≡ (handle_in k (follower k v.cluster).unhandled v).world
none_handled w v k same at = subst (λ (u : StoredState). u ≡ (handle_in k (follower k u.cluster).unhandled u).world) same (none_in w k (follower k w.cluster).unhandled at)

-- ---- a worker acts, and time passes

pub stands_acted : (w : StoredState) (n : ℕ) (a : Action) (c : ClusterState) (m : Manager) → c ≡ after_request (act (client_of w.cluster) n a w.manager).request w.cluster
    → m ≡ (act (client_of w.cluster) n a w.manager).manager → Stands w → Stands (world_of c m)
unfolding step
stands_acted w n a c m cs ms is = subst Stands (λ i. world_of (sym cs i) (sym ms i)) (stood w (works n a) is)

ticked_in : (w : StoredState) (n : ℕ) (b : Bool) → may_tick n w.manager.board ≡ b → world_of w.cluster (record w.manager { board = ticked n w.manager.board })
    ≡ (if b then record { world = record w { manager = record w.manager { board = ticked n w.manager.board } }; outcome = time (w.manager.board.time + n) } else closed w).world
ticked_in w n true may = refl
ticked_in w n false may =
    ap (λ b. world_of w.cluster (record w.manager { board = if b then passed (w.manager.board.time + n) w.manager.board else w.manager.board })) may

pub stands_ticked : (w : StoredState) (n : ℕ) (m : Manager) → m ≡ record w.manager { board = ticked n w.manager.board } → Stands w → Stands (world_of w.cluster m)
unfolding step
stands_ticked w n m ms is = subst Stands (sym ((λ i. world_of w.cluster (ms i)) ∙ ticked_in w n (may_tick n w.manager.board) refl)) (stood w (tick n) is)
