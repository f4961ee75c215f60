-- What a thread that handles changes adds to the board.
use Rattle.std.specs.Prelude.{◌≡◌, ◌||◌, ◌++◌, ℕ, List, Bool, true, false, nat_lt, Some, map}
use Rattle.std.specs.declared.cmp.Ordering.{Ordering}
use Rattle.spec_client_go.specs.Shifts.{Shift}
use Rattle.spec_server.specs.Snapshots.{Snapshot}
use Rattle.object_keys.specs.declared.per_kind.PerKind.{PerKind}
use Rattle.informer.specs.Looked.{AreKnown}
use Rattle.informer.specs.declared.listers.Lister.{Lister}
use Rattle.list_and_watch.specs.Recognized.{shows_other_server}
use Rattle.list_and_watch.specs.declared.causes.Cause.{Cause}
use Rattle.list_and_watch.specs.declared.causes.Cause.TheVariants.{FirstList, LaterList, Changes}
use Rattle.keyed_board.specs.Steps.{add}
use Rattle.shared_keyed_board.specs.Calls.{Sight, IsCall, Nothing}
use Rattle.reconciler.specs.Owing.{AreOwed}
use Rattle.reconciler.specs.Unchanged.{all_unchanged}

-- what is published after this revision is another server's: it is older, or its changes show so
abbrev pub is_other : ℕ → Snapshot → List Shift → Bool
is_other revision objects ss = nat_lt objects.revision revision || shows_other_server ss

-- of which changes of a publish the keys are added: its own, and after a list that is not the first those too that each object counts as which is shown
abbrev pub all_given : Cause → PerKind Snapshot → List Shift → List Shift
all_given FirstList maps ss = ss
all_given LaterList maps ss = ss ++ all_unchanged maps
all_given Changes maps ss = ss

-- the keys that are added of a publish: those that these changes owe, by the maps that were published when the listers looked last
abbrev pub AreGiven : {K : Type 0} → (PerKind Snapshot → Shift → List K → Type 0) → Cause → PerKind Lister → List Shift → List K → Type 0
AreGiven owes cause ls ss keys = (maps : PerKind Snapshot) × AreKnown ls maps × AreOwed (owes maps) (all_given cause maps ss) keys

-- they were added, in one step
abbrev pub AddsGiven : {K N : Type 0} (R : N → N → Ordering) → (K → N) → (PerKind Snapshot → Shift → List K → Type 0) → Cause → PerKind Lister → List Shift → Sight N → Sight N → Type 0
AddsGiven {K = K} R says owes cause ls ss v w = (keys : List K) × AreGiven owes cause ls ss keys × IsCall R v (λ b. Some (add (map says keys))) Nothing w

-- a publish is taken: the keys that it owes were added; of another server's nothing was done
pub record Takes {K N : Type 0} (R : N → N → Ordering) (says : K → N) (owes : PerKind Snapshot → Shift → List K → Type 0) (cause : Cause) (revision : ℕ) (ss : List Shift) (objects : Snapshot) (ls : PerKind Lister) (v w : Sight N) (later : ℕ) : Type 0 where
  pub other : is_other revision objects ss ≡ true → (w ≡ v) × (later ≡ revision)
  pub same : is_other revision objects ss ≡ false → AddsGiven R says owes cause ls ss v w × (later ≡ objects.revision)
