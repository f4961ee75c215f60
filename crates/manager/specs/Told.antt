-- What the board is told of what a follower publishes.
use Rattle.std.specs.Prelude.{◌≡◌, ◌⊎◌, ◌++◌, ℕ, List, [], ◌∷◌, take, drop, Option, Some, None, if◌then◌else◌}
use Rattle.baton.specs.declared.views.Known.{Known}
use Rattle.spec_api.specs.declared.kinds.Kind.{Kind}
use Rattle.spec_client_go.specs.Shifts.{Shift}
use Rattle.spec_client_go.specs.WorkQueues.{WorkKey}
use Rattle.spec_server.specs.Snapshots.{Snapshot}
use Rattle.control_desk.specs.Calls.{IsCall, Nothing}
use Rattle.control_desk.specs.Steps as boards
use Rattle.control_desk.specs.Steps.{changing}
use Rattle.control_desk.specs.declared.states.WorkState.{WorkState}
use Rattle.informer.specs.Looked.{AreKnown}
use Rattle.informer.specs.declared.listers.Lister.{Lister}
use Rattle.object_keys.specs.declared.per_kind.PerKind.{PerKind}
use Rattle.list_and_watch.specs.Followers.{Follower}
use Rattle.list_and_watch.specs.Told.{Told, Step, give, after_step, after_steps, told_nothing, owed_in}
use Rattle.list_and_watch.specs.declared.causes.Cause.{Cause}
use Rattle.manager.specs.Handled.{HasWaited, IsPiece, is_other, joined, origin_of, step_of, again_of}
use Rattle.manager.specs.Relisted.{keys_again}
use Rattle.manager.specs.declared.origins.Origin.{Origin}

-- listers have looked, and these maps were published then
abbrev pub AreSeen : PerKind Snapshot → Type 0
AreSeen maps = (ls : PerKind Lister) × AreKnown ls maps

-- Changes are handled one after another, each by one step at the board, which says of which kind it is and at which revision: what it shows of the pods that are expected is noted, which of other kinds is
-- nothing, and the keys that it owes by these maps are added. Meanwhile a pass makes no other step.
abbrev pub AreHandled : Origin → PerKind Snapshot → List Shift → Known WorkState boards.Step → Known WorkState boards.Step → Type 0
AreHandled origin maps [] v w = HasWaited v w
AreHandled origin maps (s ∷ ss) v w =
    (before : Known WorkState boards.Step) × (after : Known WorkState boards.Step)
    × HasWaited v before × IsCall before (changing (step_of origin maps s)) Nothing after × AreHandled origin maps ss after w

-- Pieces of keys are added one after another, each by one step.
abbrev pub AreAddedIn : Origin → List (List WorkKey) → Known WorkState boards.Step → Known WorkState boards.Step → Type 0
AreAddedIn origin [] v w = HasWaited v w
AreAddedIn origin (p ∷ ps) v w =
    (before : Known WorkState boards.Step) × (after : Known WorkState boards.Step)
    × HasWaited v before × IsPiece p × IsCall before (changing (again_of origin p)) Nothing after × AreAddedIn origin ps after w

-- Keys are added in pieces, which joined are just these.
pub record AreAdded (origin : Origin) (keys : List WorkKey) (v w : Known WorkState boards.Step) : Type 0 where
  pub pieces : List (List WorkKey)
  pub whole : joined pieces ≡ keys
  pub added : AreAddedIn origin pieces v w

-- Of a publish, by maps that were looked at, so many of the changes were handled, and so many of the keys that are added after them; none of
-- these before all changes were handled.
pub record IsHandledTo (handled added : ℕ) (origin : Origin) (changes : List Shift) (v w : Known WorkState boards.Step) : Type 0 where
  pub maps : PerKind Snapshot
  pub seen : AreSeen maps
  pub between : Known WorkState boards.Step
  pub changed : AreHandled origin maps (take handled changes) v between
  pub again : AreAdded origin (take added (keys_again origin.cause maps)) between w
  pub order : (added ≡ 0) ⊎ (drop handled changes ≡ [])

-- A publish is handled: each of its changes, and after a list that is not the first each key that is looked at again.
pub record IsHandled (origin : Origin) (changes : List Shift) (v w : Known WorkState boards.Step) : Type 0 where
  pub maps : PerKind Snapshot
  pub seen : AreSeen maps
  pub between : Known WorkState boards.Step
  pub changed : AreHandled origin maps changes v between
  pub again : AreAdded origin (keys_again origin.cause maps) between w

-- Changes, and where they come from.
pub record Given : Type 0 where
  pub origin : Origin
  pub changes : List Shift

-- So is each of what is given, in order.
abbrev pub AreAllHandled : List Given → Known WorkState boards.Step → Known WorkState boards.Step → Type 0
AreAllHandled [] v w = HasWaited v w
AreAllHandled (g ∷ gs) v w = (u : Known WorkState boards.Step) × IsHandled g.origin g.changes v u × AreAllHandled gs u w

-- of changes of a kind that are given after a publish of this revision those are to be handled that are not another server's, which are none or all
abbrev pub given_of : Kind → ℕ → Snapshot → Cause → Option (List Shift) → List Given
given_of kind r objects cause None = []
given_of kind r objects cause (Some changes) = if is_other r objects changes then [] else record { origin = origin_of kind objects cause; changes = changes } ∷ []

abbrev pub revision_of : ℕ → Snapshot → Option (List Shift) → ℕ
revision_of r objects None = r
revision_of r objects (Some changes) = if is_other r objects changes then r else objects.revision

-- so it is at a step
abbrev pub given_at : Kind → ℕ → Step → Told → List Given
given_at kind r give t = given_of kind r t.follower.informer.published t.cause t.owed
given_at kind r s t = []

abbrev pub revision_at : ℕ → Step → Told → ℕ
revision_at r give t = revision_of r t.follower.informer.published t.owed
revision_at r s t = r

-- and at steps, one after another
abbrev pub given_in : Kind → ℕ → List Step → Told → List Given
given_in kind r [] t = []
given_in kind r (s ∷ ss) t = given_at kind r s t ++ given_in kind (revision_at r s t) ss (after_step s t)

-- where what is owed comes from
abbrev pub origin_in : Kind → Told → Origin
origin_in kind t = origin_of kind t.follower.informer.published t.cause

-- What is owed at the end was handled as far as there was memory for it: nothing of it, or a first part.
pub data IsHandledSome (origin : Origin) (changes : List Shift) (v w : Known WorkState boards.Step) : Type 0 where
  nothing : HasWaited v w → IsHandledSome origin changes v w
  some : (handled added : ℕ) → IsHandledTo handled added origin changes v w → IsHandledSome origin changes v w

-- A follower of a kind has gone on by steps, and the board was told just what these give, in order, each publish once; and of what is owed at the end, as much
-- as could be handled before memory was refused.
pub record IsToldAll (kind : Kind) (f : Follower) (r : ℕ) (v : Known WorkState boards.Step) (g : Follower) (w : Known WorkState boards.Step) : Type 0 where
  pub steps : List Step
  pub between : Known WorkState boards.Step
  pub leads : (after_steps steps (told_nothing f)).follower ≡ g
  pub told : AreAllHandled (given_in kind r steps (told_nothing f)) v between
  pub owed : IsHandledSome (origin_in kind (after_steps steps (told_nothing f))) (owed_in (after_steps steps (told_nothing f)).owed) between w
