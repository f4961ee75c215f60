-- The threads of a run, by their passes.
use Rattle.std.specs.Prelude.{◌≡◌, List, [], ◌∷◌, ◌++◌}
use Rattle.spec_client_go.specs.Shifts.{Shift}
use Rattle.spec_server.specs.Snapshots.{Snapshot}
use Rattle.object_keys.specs.declared.per_kind.PerKind.{PerKind}
use Rattle.keyed_board.specs.declared.outcome.Outcome.{Outcome}
use Rattle.shared_keyed_board.specs.Passes.{AnyPass}
use Rattle.shared_keyed_board.specs.declared.boards.SharedKeyedBoard.{SharedKeyedBoard}
use Rattle.controller_runtime.specs.Runs.{IsAtWork, IsBack}
use Rattle.controller_runtime.specs.declared.members.RunThread.{RunThread}
use Rattle.controller_runtime.specs.declared.members.RunThread.TheVariants.{Follows, Works, Ticks, Stops}

module _ {R C K A : Type 0} where
  abbrev pub pass_in : RunThread R C K A → AnyPass K
  pass_in (Follows f) = f.handler.pass
  pass_in (Works w) = w.pass
  pass_in (Ticks t) = t.pass
  pass_in (Stops s) = s.pass

  -- a thread that follows a kind has the board too
  abbrev pub IsThreadAt : SharedKeyedBoard K → RunThread R C K A → Type 0
  IsThreadAt d (Follows f) = f.handler.board.now ≡ d
  IsThreadAt d (Works w) = Unit {0}
  IsThreadAt d (Ticks t) = Unit {0}
  IsThreadAt d (Stops s) = Unit {0}

  -- a thread that waits for the stop
  abbrev pub IsStopper : RunThread R C K A → Type 0
  IsStopper (Follows f) = ⊥
  IsStopper (Works w) = ⊥
  IsStopper (Ticks t) = ⊥
  IsStopper (Stops s) = Unit {0}

  -- the last of the threads does, which is the one that starts the others
  abbrev pub StopsLast : List (RunThread R C K A) → Type 0
  StopsLast ts = (front : List (RunThread R C K A)) × (t : RunThread R C K A) × (ts ≡ front ++ t ∷ []) × IsStopper t

  -- a thread that may begin, or go on
  abbrev pub IsReady : {N : Type 0} → (PerKind Snapshot → Shift → List K → Type 0) → (K → PerKind Snapshot → Outcome → Type 0) → (K → N) → SharedKeyedBoard K → RunThread R C K A → Type 0
  IsReady owes ends says d t = IsThreadAt d t × IsAtWork owes ends says d (pass_in t)

  -- a thread whose pass has come back
  abbrev pub HasEnded : {N : Type 0} → (PerKind Snapshot → Shift → List K → Type 0) → (K → PerKind Snapshot → Outcome → Type 0) → (K → N) → SharedKeyedBoard K → RunThread R C K A → Type 0
  HasEnded owes ends says d t = IsBack owes ends says d (pass_in t)
