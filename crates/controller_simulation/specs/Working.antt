-- What workers do.
use Rattle.std.specs.Prelude.{◌≡◌, ◌&&◌, ℕ, List, Option, Some, None, Bool, true, false, not, slice_set}
use Rattle.std.specs.declared.cmp.Ordering.{Ordering}
use Rattle.spec_server.specs.Snapshots.{Snapshot}
use Rattle.spec_api.specs.declared.kinds.Kind.{Kind}
use Rattle.object_keys.specs.PerKind.{of_kind}
use Rattle.object_keys.specs.declared.per_kind.PerKind.{PerKind}
use Rattle.keyed_board.specs.Boards.{taken, finished}
use Rattle.keyed_board.specs.Said.{said}
use Rattle.keyed_queues.specs.Queues.{handed}
use Rattle.keyed_board.specs.declared.outcome.Outcome.{Outcome}
use Rattle.sim_cluster.specs.ClusterStates.{ClusterState}
use Rattle.sim_cluster.specs.Requested.{have_all_listed}
use Rattle.controller_simulation.specs.Acting.{Begins, GoesOn, HasAsked, Starts}
use Rattle.controller_simulation.specs.Turns.{EndsBy, HasLooked, is_idle, turn_of}
use Rattle.controller_simulation.specs.Worlds.{EndsTurn}
use Rattle.controller_simulation.specs.declared.fates.Fate.{Fate}
use Rattle.controller_simulation.specs.declared.turns.ControllerTurn.{ControllerTurn}
use Rattle.controller_simulation.specs.declared.turns.Next.{Next}
use Rattle.controller_simulation.specs.declared.working.Taking.{Taking}
use Rattle.controller_simulation.specs.declared.working.Taking.TheVariants as taking
use Rattle.controller_simulation.specs.declared.working.Issued.{Issued}
use Rattle.controller_simulation.specs.declared.working.Issued.TheVariants.{NotOpen, Made, Differs}
use Rattle.controller_simulation.specs.declared.worlds.ControllerWorld.{ControllerWorld}

-- the key that waits longest was taken, if one waits; or the step was not open, and the board is as it was
abbrev pub Takes : {K N : Type 0} (R : N → N → Ordering) → (K → N) → ControllerWorld K → ControllerWorld K → Taking → Type 0
Takes R says before after taking.NotOpen = said R says after.board ≡ said R says before.board
Takes R says before after taking.NoneWaits = said R says after.board ≡ taken (said R says before.board)
Takes R says before after taking.Took = said R says after.board ≡ taken (said R says before.board)

-- a worker may take a key that is in no turn, once the first list of each kind was published
abbrev pub can_take : {K : Type 0} → ℕ → List (Option (ControllerTurn K)) → ClusterState → Bool
can_take worker turns w = is_idle worker turns && have_all_listed w

-- its turn begins with that key; or none waits, or the step was not open, and all workers are in what they were in
abbrev pub BeginsTurn : {K N : Type 0} (R : N → N → Ordering) → (K → N) → ℕ → ControllerWorld K → ControllerWorld K → Taking → Type 0
BeginsTurn R says worker before after taking.NotOpen = after.turns.items ≡ before.turns.items
BeginsTurn R says worker before after taking.NoneWaits = (after.turns.items ≡ before.turns.items) × (handed (said R says before.board).work ≡ None)
BeginsTurn R says worker before after taking.Took = Starts (Begins says (said R says before.board)) worker before.turns.items after.turns.items

-- what becomes of that: whether it may, and the key that waits longest, if one waits
abbrev pub taking_of : {N : Type 0} → Bool → Option N → Taking
taking_of false waiting = taking.NotOpen
taking_of true None = taking.NoneWaits
taking_of true (Some k) = taking.Took

-- a worker looks at a kind that is in a turn and has not looked at it yet
abbrev pub not_looked : {K : Type 0} → Kind → Option (ControllerTurn K) → Bool
not_looked k None = false
not_looked k (Some t) = not (of_kind k t.looked)

abbrev pub looks_now : {K : Type 0} → ℕ → Kind → List (Option (ControllerTurn K)) → Bool
looks_now worker k turns = not_looked k (turn_of worker turns)

-- the turn that a worker is in is shown this of a kind from now on; or the worker does not look
abbrev pub LooksAt : {K : Type 0} → ℕ → Kind → Snapshot → List (Option (ControllerTurn K)) → List (Option (ControllerTurn K)) → Bool → Type 0
LooksAt worker k s before after false = after ≡ before
LooksAt worker k s before after true = GoesOn (HasLooked k s) worker before after

-- this comes next in a worker's turn
abbrev pub ComesNext : {K : Type 0} → (K → PerKind Snapshot → Outcome → Type 0) → List (Option (ControllerTurn K)) → ℕ → Next → Type 0
ComesNext {K = K} ends turns worker next = (t : ControllerTurn K) × (turn_of worker turns ≡ Some t) × EndsBy (ends t.key t.shown) next

-- a line was asked in the worker's turn, with this fate
abbrev pub AsksBy : {K : Type 0} → Fate → ℕ → ControllerWorld K → ControllerWorld K → Type 0
AsksBy f worker before after = (line : List ℕ) × GoesOn (HasAsked f line before.cluster after.cluster) worker before.turns.items after.turns.items

-- and none where nothing was to be asked
abbrev pub Issues : {K : Type 0} → Fate → ℕ → ControllerWorld K → ControllerWorld K → Issued → Type 0
Issues f worker before after NotOpen = (after.cluster ≡ before.cluster) × (after.turns.items ≡ before.turns.items)
Issues f worker before after Made = AsksBy f worker before after
Issues f worker before after Differs = (after.cluster ≡ before.cluster) × (after.turns.items ≡ before.turns.items)

-- a key was given back that was in the worker's turn, and its reconcile ends so; or none was, and the board and all turns are as they were
abbrev pub EndsFor :
    {K N : Type 0} (R : N → N → Ordering) → (K → N) → (K → PerKind Snapshot → Outcome → Type 0) → ℕ → ControllerWorld K → ControllerWorld K → Option (K × Outcome) → Type 0
EndsFor R says ends worker before after None = (said R says after.board ≡ said R says before.board) × (after.turns.items ≡ before.turns.items)
EndsFor R says ends worker before after (Some e) =
    EndsTurn ends before.turns.items worker e.0 e.1
    × (said R says after.board ≡ finished (says e.0) e.1 (said R says before.board)) × (after.turns.items ≡ slice_set before.turns.items worker None)
