-- What the board is told of what a follower publishes.
use Rattle.std.specs.Prelude.{◌≡◌, ◌++◌, ℕ, List, [], ◌∷◌, Bool, false, Option, Some, None, if◌then◌else◌}
use Rattle.std.specs.declared.cmp.Ordering.{Ordering}
use Rattle.spec_client_go.specs.Shifts.{Shift}
use Rattle.spec_server.specs.Snapshots.{Snapshot}
use Rattle.list_and_watch.specs.Followers.{Follower}
use Rattle.list_and_watch.specs.Told.{Told, Step, give, after_step, after_steps, told_nothing}
use Rattle.list_and_watch.specs.declared.causes.Cause.{Cause}
use Rattle.informer.specs.declared.listers.Lister.{Lister}
use Rattle.object_keys.specs.declared.per_kind.PerKind.{PerKind}
use Rattle.shared_keyed_board.specs.Calls.{Sight, IsLater}
use Rattle.controller_runtime.specs.Handled.{AddsGiven, is_other}

-- where no publish could be handled, nothing is done, and it is to be handled again
abbrev pub Refuses : {N : Type 0} → ℕ → List Shift → Snapshot → Sight N → Sight N → ℕ → Type 0
Refuses revision ss objects v w later = (is_other revision objects ss ≡ false) × IsLater v w × (later ≡ revision)

-- Changes, and why they are given.
pub record Given : Type 0 where
  pub cause : Cause
  pub changes : List Shift

-- One step at the board adds the keys that are to be added of a publish, by listers that have looked.
abbrev pub IsAdded : {K N : Type 0} (R : N → N → Ordering) → (K → N) → (PerKind Snapshot → Shift → List K → Type 0) → Cause → List Shift → Sight N → Sight N → Type 0
IsAdded R says owes cause changes v w = (ls : PerKind Lister) × AddsGiven R says owes cause ls changes v w

-- Publishes are handled one after another, each by one step. Meanwhile a pass makes no other step.
abbrev pub AreAdded : {K N : Type 0} (R : N → N → Ordering) → (K → N) → (PerKind Snapshot → Shift → List K → Type 0) → List Given → Sight N → Sight N → Type 0
AreAdded R says owes [] v w = IsLater v w
AreAdded {N = N} R says owes (g ∷ rest) v w =
    (before : Sight N) × (after : Sight N) × IsLater v before × IsAdded R says owes g.cause g.changes before after × AreAdded R says owes rest after w

-- of changes that are given after a publish of this revision those are to be handled that are not another server's, which are none or all
abbrev pub given_of : ℕ → Snapshot → Cause → Option (List Shift) → List Given
given_of r objects cause None = []
given_of r objects cause (Some changes) = if is_other r objects changes then [] else record { cause = cause; changes = changes } ∷ []

abbrev pub revision_of : ℕ → Snapshot → Option (List Shift) → ℕ
revision_of r objects None = r
revision_of r objects (Some changes) = if is_other r objects changes then r else objects.revision

-- so it is at a step
abbrev pub given_at : ℕ → Step → Told → List Given
given_at r give t = given_of r t.follower.informer.published t.cause t.owed
given_at r s t = []

abbrev pub revision_at : ℕ → Step → Told → ℕ
revision_at r give t = revision_of r t.follower.informer.published t.owed
revision_at r s t = r

-- and at steps, one after another
abbrev pub given_in : ℕ → List Step → Told → List Given
given_in r [] t = []
given_in r (s ∷ ss) t = given_at r s t ++ given_in (revision_at r s t) ss (after_step s t)

-- a follower has gone on by steps, and the board was told just of the publishes that these give, in order, each once
pub record IsToldAll {K N : Type 0} (R : N → N → Ordering) (says : K → N) (owes : PerKind Snapshot → Shift → List K → Type 0) (f : Follower) (r : ℕ) (v : Sight N) (g : Follower) (w : Sight N) : Type 0 where
  pub steps : List Step
  pub leads : (after_steps steps (told_nothing f)).follower ≡ g
  pub told : AreAdded R says owes (given_in r steps (told_nothing f)) v w
