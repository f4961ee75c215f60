-- What the steps of a world make of its cluster and of its board.
use Rattle.std.specs.Prelude.{◌≡◌, ℕ, List, map, length, replicate, Option, Some, None, true, false, slice_get, slice_set, ⊤}
use Rattle.std.specs.declared.cmp.Ordering.{Ordering}
use Rattle.spec_api.specs.declared.kinds.Kind.{Kind}
use Rattle.spec_client_go.specs.Shifts.{Shift}
use Rattle.spec_server.specs.Snapshots.{Snapshot}
use Rattle.spec_sim.specs.Clusters.{ClusterStep, restart}
use Rattle.spec_sim.specs.Followers.{Notification}
use Rattle.object_keys.specs.PerKind.{each_kind}
use Rattle.object_keys.specs.declared.per_kind.PerKind.{PerKind}
use Rattle.keyed_board.specs.Boards.{KeyBoard, begun, with_keys, taken, finished, ticked}
use Rattle.keyed_board.specs.Said.{said}
use Rattle.keyed_queues.specs.Queues.{handed}
use Rattle.keyed_board.specs.declared.outcome.Outcome.{Outcome}
use Rattle.reconciler.specs.Owing.{AreOwed}
use Rattle.reconciler.specs.Unchanged.{all_unchanged}
use Rattle.sim_cluster.specs.Changes.{without_oldest}
use Rattle.sim_cluster.specs.ClusterStates.{ClusterState, follower, published, step}
use Rattle.sim_followers.specs.Outcomes.{outcome_of}
use Rattle.controller_simulation.specs.Requests.{MayAsk}
use Rattle.controller_simulation.specs.Acting.{Begins, GoesOn, HasAsked, Starts}
use Rattle.controller_simulation.specs.Turns.{HasLooked, turn_of}
use Rattle.controller_simulation.specs.declared.events.WorldEvent.{WorldEvent}
use Rattle.controller_simulation.specs.declared.events.WorldEvent.TheVariants.{NoStep, InCluster, Restarted, Handled, OwedAgain, Took, Looked, Asked, Finished, Differs, Time}
use Rattle.controller_simulation.specs.declared.fates.Fate.{Fate}
use Rattle.controller_simulation.specs.declared.turns.ControllerTurn.{ControllerTurn}
use Rattle.controller_simulation.specs.declared.worlds.ControllerWorld.{ControllerWorld}

-- what is published of each kind
abbrev pub shown_in : ClusterState → PerKind Snapshot
shown_in w = each_kind (λ k. published k w)

-- the oldest published change of a kind that is still to be handled, if there is one
abbrev pub oldest_in : Kind → ClusterState → Option Notification
oldest_in k w = slice_get (follower k w).unhandled 0

-- ---- the cluster

-- it took at most one step of its own, or its oldest change of a kind was handled
abbrev pub ClusterAfter : {K : Type 0} → WorldEvent K → ClusterState → ClusterState → Type 0
ClusterAfter NoStep w v = v ≡ w
ClusterAfter (InCluster o) w v = (s : ClusterStep) × (v ≡ (step w s).cluster) × (outcome_of o ≡ (step w s).outcome)
ClusterAfter Restarted w v = v ≡ (step w restart).cluster
ClusterAfter (Handled k keys) w v = v ≡ without_oldest k w
ClusterAfter (OwedAgain keys) w v = v ≡ w
ClusterAfter (Took worker key) w v = v ≡ w
ClusterAfter (Looked worker k) w v = v ≡ w
ClusterAfter (Asked worker) w v = MayAsk w v
ClusterAfter (Finished worker key outcome) w v = v ≡ w
ClusterAfter (Differs worker) w v = v ≡ w
ClusterAfter (Time now) w v = v ≡ w

-- ---- the board

-- by what keys say: at most one step of a board, or it begins anew
abbrev pub board_after : {K N : Type 0} {R : N → N → Ordering} → (K → N) → WorldEvent K → KeyBoard R → KeyBoard R
board_after says NoStep b = b
board_after says (InCluster o) b = b
board_after says Restarted b = begun
board_after says (Handled k keys) b = with_keys (map says keys.items) b
board_after says (OwedAgain keys) b = with_keys (map says keys.items) b
board_after says (Took worker key) b = taken b
board_after says (Looked worker k) b = b
board_after says (Asked worker) b = b
board_after says (Finished worker key outcome) b = finished (says key) outcome b
board_after says (Differs worker) b = b
board_after says (Time now) b = ticked now b

-- ---- turns

-- at most the turn of the worker changes that is told; after a restart no worker is in one
abbrev pub TurnsAfter : {K N : Type 0} (R : N → N → Ordering) → (K → N) → WorldEvent K → ControllerWorld K → ControllerWorld K → Type 0
TurnsAfter R says NoStep w v = v.turns.items ≡ w.turns.items
TurnsAfter R says (InCluster o) w v = v.turns.items ≡ w.turns.items
TurnsAfter R says Restarted w v = v.turns.items ≡ replicate (length w.turns.items) None
TurnsAfter R says (Handled k keys) w v = v.turns.items ≡ w.turns.items
TurnsAfter R says (OwedAgain keys) w v = v.turns.items ≡ w.turns.items
TurnsAfter R says (Took worker false) w v = (v.turns.items ≡ w.turns.items) × (handed (said R says w.board).work ≡ None)
TurnsAfter R says (Took worker true) w v = Starts (Begins says (said R says w.board)) worker w.turns.items v.turns.items
TurnsAfter R says (Looked worker k) w v = GoesOn (HasLooked k (published k w.cluster)) worker w.turns.items v.turns.items
TurnsAfter R says (Asked worker) w v = (f : Fate) × (line : List ℕ) × GoesOn (HasAsked f line w.cluster v.cluster) worker w.turns.items v.turns.items
TurnsAfter R says (Finished worker key outcome) w v = v.turns.items ≡ slice_set w.turns.items worker None
TurnsAfter R says (Differs worker) w v = v.turns.items ≡ w.turns.items
TurnsAfter R says (Time now) w v = v.turns.items ≡ w.turns.items

-- ---- what the controller allows

-- these are the keys that the oldest published change of a kind owes, by what is shown
abbrev pub AreOfOldest : {K : Type 0} → (PerKind Snapshot → Shift → List K → Type 0) → ClusterState → Kind → List K → Type 0
AreOfOldest owes w k keys = (n : Notification) × (oldest_in k w ≡ Some n) × owes (shown_in w) n.shift keys

-- a worker's turn with the key ends so, by what it was shown
abbrev pub EndsTurn : {K : Type 0} → (K → PerKind Snapshot → Outcome → Type 0) → List (Option (ControllerTurn K)) → ℕ → K → Outcome → Type 0
EndsTurn {K = K} ends turns worker key outcome = (t : ControllerTurn K) × (turn_of worker turns ≡ Some t) × (key ≡ t.key) × ends t.key t.shown outcome

module _ {K : Type 0} (owes : PerKind Snapshot → Shift → List K → Type 0) (ends : K → PerKind Snapshot → Outcome → Type 0) where
  -- keys are added only where the controller says that the handled change owes them, and given back only as it says that their reconcile may end
  abbrev pub IsAllowed : ClusterState → List (Option (ControllerTurn K)) → WorldEvent K → Type 0
  IsAllowed w turns NoStep = ⊤
  IsAllowed w turns (InCluster o) = ⊤
  IsAllowed w turns Restarted = ⊤
  IsAllowed w turns (Handled k keys) = AreOfOldest owes w k keys.items
  IsAllowed w turns (OwedAgain keys) = AreOwed (owes (shown_in w)) (all_unchanged (shown_in w)) keys.items
  IsAllowed w turns (Took worker key) = ⊤
  IsAllowed w turns (Looked worker k) = ⊤
  IsAllowed w turns (Asked worker) = ⊤
  IsAllowed w turns (Finished worker key outcome) = EndsTurn ends turns worker key outcome
  IsAllowed w turns (Differs worker) = ⊤
  IsAllowed w turns (Time now) = ⊤
