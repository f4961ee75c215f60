-- What the threads of a run do at its board, and how their passes come back.
use Rattle.std.specs.Prelude.{◌≡◌, ℕ, List, ◌∷◌, [], ◌++◌, None, All, map}
use Rattle.std.specs.declared.cmp.Ordering.{Ordering}
use Rattle.spec_client_go.specs.Shifts.{Shift}
use Rattle.spec_server.specs.Snapshots.{Snapshot}
use Rattle.object_keys.specs.declared.per_kind.PerKind.{PerKind}
use Rattle.informer.specs.Looked.{AreKnown}
use Rattle.informer.specs.declared.listers.Lister.{Lister}
use Rattle.baton.specs.Marks.{made_by, CanHappen}
use Rattle.keyed_board.specs.Steps.{Step, add, add_after, take, finish, tick, shut_down}
use Rattle.keyed_board.specs.declared.outcome.Outcome.{Outcome}
use Rattle.keyed_board.specs.declared.outcome.Outcome.TheVariants.{Done}
use Rattle.shared_keyed_board.specs.Calls.{Sight}
use Rattle.shared_keyed_board.specs.Histories.{History, MayFollow, hand}
use Rattle.shared_keyed_board.specs.Passes.{AnyPass, IsPassAt, key_in_hand, sight}
use Rattle.shared_keyed_board.specs.declared.boards.SharedKeyedBoard.{SharedKeyedBoard}
use Rattle.reconciler.specs.Owing.{AreOwed}
use Rattle.controller_runtime.specs.Reconciled.{EndsAsShown}

-- keys are added: those that changes owe, by the maps that listers knew
abbrev pub AddsOwedKeys : {K N : Type 0} → (PerKind Snapshot → Shift → List K → Type 0) → (K → N) → List N → Type 0
AddsOwedKeys {K = K} owes says ns = (ls : PerKind Lister) × (maps : PerKind Snapshot) × (changes : List Shift) × (keys : List K) × AreKnown ls maps × AreOwed (owes maps) changes keys × (ns ≡ map says keys)

-- a key is given back with how its reconcile ended, by the maps that listers knew
abbrev pub GivesBack : {K N : Type 0} → (K → PerKind Snapshot → Outcome → Type 0) → (K → N) → N → Outcome → Type 0
GivesBack {K = K} ends says n outcome = (key : K) × (ls : PerKind Lister) × (n ≡ says key) × EndsAsShown ends key ls outcome

module _ {K N : Type 0} (owes : PerKind Snapshot → Shift → List K → Type 0) (ends : K → PerKind Snapshot → Outcome → Type 0) (says : K → N) where
  -- a step that a thread of a run makes
  abbrev pub IsRunStep : Step N → Type 0
  IsRunStep (add ns) = AddsOwedKeys owes says ns
  IsRunStep (add_after n milliseconds) = ⊥
  IsRunStep (take n) = Unit {0}
  IsRunStep (finish n outcome) = GivesBack ends says n outcome
  IsRunStep (tick now) = Unit {0}
  IsRunStep shut_down = Unit {0}

  -- all steps of a thread: such ones; and where the run was over while a key was in its hand, it gave that back as done, last of all
  pub data AreRunSteps (es : List (Step N)) : Type 0 where
    all_so : All IsRunStep es → AreRunSteps es
    let_go : (front : List (Step N)) (n : N) → All IsRunStep front → es ≡ front ++ finish n Done ∷ [] → AreRunSteps es

  -- a pass at the board of a run, between two turns: no key is in its hand
  abbrev pub IsAtWork : SharedKeyedBoard K → AnyPass K → Type 0
  IsAtWork d p = IsPassAt d p × (key_in_hand says p ≡ None) × All IsRunStep (sight says p).made

  -- a pass that has come back from a run: no key is in its hand
  abbrev pub IsBack : SharedKeyedBoard K → AnyPass K → Type 0
  IsBack d p = IsPassAt d p × (key_in_hand says p ≡ None) × AreRunSteps (sight says p).made

  -- in a history of the board, which may happen, the pass of this name made steps of a run and no others, and has no key in its hand
  pub record IsOfRun (R : N → N → Ordering) (h : History N) (name : ℕ) : Type 0 where
    pub happened : CanHappen (MayFollow R) h
    pub steps : AreRunSteps (made_by name h)
    pub free : hand h name ≡ None

-- a pass has added keys that changes owe, and done nothing else
abbrev pub OnlyAddsOwed : {K N : Type 0} → (PerKind Snapshot → Shift → List K → Type 0) → (K → N) → Sight N → Sight N → Type 0
OnlyAddsOwed {N = N} owes says v w = (added : List (List N)) × (w.made ≡ v.made ++ map add added) × All (AddsOwedKeys owes says) added
