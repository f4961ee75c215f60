-- What a thread that handles changes adds to the history of the board.
use Rattle.std.specs.Prelude.{◌≡◌, ◌⊎◌, ◌||◌, ◌++◌, ◌<◌, ◌≤◌, ℕ, List, [], ◌∷◌, drop, length, flat_map, Bool, true, false, nat_lt, Option, Some, None}
use Rattle.baton.specs.Marks.{StartsWith}
use Rattle.baton.specs.declared.views.Known.{Known}
use Rattle.spec_api.specs.declared.kinds.Kind.{Kind}
use Rattle.spec_client_go.specs.OwedKeys.{keys_of}
use Rattle.spec_client_go.specs.Shifts.{Shift}
use Rattle.spec_client_go.specs.WorkQueues.{WorkKey}
use Rattle.list_and_watch.specs.Causes.{is_first}
use Rattle.list_and_watch.specs.Recognized.{shows_other_server}
use Rattle.list_and_watch.specs.declared.causes.Cause.{Cause}
use Rattle.informer.specs.declared.listers.Lister.{Lister}
use Rattle.spec_sim.specs.ControlPlanes.{change_of}
use Rattle.spec_sim.specs.PodObservations.{observations}
use Rattle.spec_server.specs.Snapshots.{Snapshot}
use Rattle.control_desk.specs.Calls.{IsCall, Nothing}
use Rattle.control_desk.specs.Steps.{Step, changing, observe}
use Rattle.control_desk.specs.declared.states.WorkState.{WorkState}
use Rattle.reconcile_types.specs.Hands.{looks_of}
use Rattle.object_keys.specs.declared.per_kind.PerKind.{PerKind}
use Rattle.manager.specs.Looked.{AreLookedAt}
use Rattle.manager.specs.Relisted.{keys_again}
use Rattle.manager.specs.declared.origins.Origin.{Origin}

-- where the changes come from that are given with these objects of a kind
abbrev pub origin_of : Kind → Snapshot → Cause → Origin
origin_of kind objects cause = record { kind = kind; revision = objects.revision; cause = cause }

-- the step by which a change is handled: of its kind, at the revision of the map that is published with it; what it shows of the pods that are expected,
-- nothing where it is of the first list, and the keys that it owes by these maps
abbrev pub step_of : Origin → PerKind Snapshot → Shift → Step
step_of origin maps s =
    observe origin.kind origin.revision (observations (record { shift = s; is_in_initial_list = is_first origin.cause })) (keys_of (change_of s) (looks_of (λ m. m) maps))

-- and that by which keys are added after the changes
abbrev pub again_of : Origin → List WorkKey → Step
again_of origin keys = observe origin.kind origin.revision [] keys

-- a pass has seen more, or no more, and made nothing
abbrev pub HasWaited : Known WorkState Step → Known WorkState Step → Type 0
HasWaited v w = StartsWith w.seen v.seen × (w.made ≡ v.made)

-- the changes are handled one after another, each in one step
abbrev pub Handles : Origin → PerKind Snapshot → List Shift → Known WorkState Step → Known WorkState Step → Type 0
Handles origin maps [] v w = w ≡ v
Handles origin maps (s ∷ ss) v w = (u : Known WorkState Step) × IsCall v (changing (step_of origin maps s)) Nothing u × Handles origin maps ss u w

-- those before these that are left are handled, and then one could not be
pub record StopsAt (origin : Origin) (maps : PerKind Snapshot) (shifts left : List Shift) (v w : Known WorkState Step) : Type 0 where
  pub handled : List Shift
  pub whole : shifts ≡ handled ++ left
  pub between : Known WorkState Step
  pub handles : Handles origin maps handled v between
  pub waited : HasWaited between w

-- so many keys are added in one step, and not more, so that the board is not taken for long
abbrev pub IsPiece : List WorkKey → Type 0
IsPiece keys = (0 < length keys) × (length keys ≤ 256)

-- pieces of keys are added one after another, each in one step
abbrev pub AddsPieces : Origin → List (List WorkKey) → Known WorkState Step → Known WorkState Step → Type 0
AddsPieces origin [] v w = w ≡ v
AddsPieces origin (p ∷ ps) v w = (u : Known WorkState Step) × IsPiece p × IsCall v (changing (again_of origin p)) Nothing u × AddsPieces origin ps u w

abbrev pub joined : List (List WorkKey) → List WorkKey
joined ps = flat_map (λ p. p) ps

-- keys are added in pieces, which joined are just these
pub record Adds (origin : Origin) (keys : List WorkKey) (v w : Known WorkState Step) : Type 0 where
  pub pieces : List (List WorkKey)
  pub whole : joined pieces ≡ keys
  pub adds : AddsPieces origin pieces v w

-- those before these that are left are added, and then a piece could not be
pub record StopsAdding (origin : Origin) (keys left : List WorkKey) (v w : Known WorkState Step) : Type 0 where
  pub pieces : List (List WorkKey)
  pub whole : keys ≡ joined pieces ++ left
  pub between : Known WorkState Step
  pub adds : AddsPieces origin pieces v between
  pub waited : HasWaited between w

-- changes are handled by these maps, and then, after a list that is not the first, keys are added, all but the first so many
abbrev pub HandlesBy : Origin → PerKind Snapshot → List Shift → ℕ → Known WorkState Step → Known WorkState Step → Type 0
HandlesBy origin maps shifts added v w = (u : Known WorkState Step) × Handles origin maps shifts v u × Adds origin (drop added (keys_again origin.cause maps)) u w

-- so it is by maps that were looked at before, or are now
abbrev pub HandlesAll : Origin → Option (PerKind Snapshot) → PerKind Lister → List Shift → ℕ → Known WorkState Step → Known WorkState Step → Type 0
HandlesAll origin before ls shifts added v w = (maps : PerKind Snapshot) × AreLookedAt before ls maps × HandlesBy origin maps shifts added v w

-- How far what is published of a kind is handled: so many of the changes of a publish, and so many of the keys that are added after them, by these maps,
-- after a publish of this revision.
pub record Progress : Type 0 where
  pub kind : Kind
  pub handled : ℕ
  pub added : ℕ
  pub revision : ℕ
  pub looks : Option (PerKind Snapshot)

-- none of the next publish is
abbrev pub done_with : Kind → ℕ → Progress
done_with kind revision = record { kind = kind; handled = 0; added = 0; revision = revision; looks = None }

-- What is published is another server's: it is older than the publish of this revision, or its changes show so.
abbrev pub is_other : ℕ → Snapshot → List Shift → Bool
is_other revision objects shifts = nat_lt objects.revision revision || shows_other_server shifts

-- The changes of a publish that were not handled are, the keys that were not added are, and then that is done with; of another server nothing is.
abbrev pub Takes : Cause → Progress → Snapshot → List Shift → PerKind Lister → Known WorkState Step → Known WorkState Step → Progress → Type 0
Takes cause before objects shifts ls v w after =
    ((is_other before.revision objects shifts ≡ true) × (w ≡ v) × (after ≡ before))
    ⊎ ((is_other before.revision objects shifts ≡ false) × HandlesAll (origin_of before.kind objects cause) before.looks ls (drop before.handled shifts) before.added v w
    × (after ≡ done_with before.kind objects.revision))

-- By these maps some more changes are handled, and the others are left; or all are, and some more keys are added, and the others are left.
pub data StopsBy (origin : Origin) (maps : PerKind Snapshot) (shifts : List Shift) (handled added : ℕ) (v w : Known WorkState Step) (more_handled more_added : ℕ) : Type 0 where
  at_change : StopsAt origin maps (drop handled shifts) (drop more_handled shifts) v w → more_added ≡ added → StopsBy origin maps shifts handled added v w more_handled more_added
  at_key : (u : Known WorkState Step) → Handles origin maps (drop handled shifts) v u → drop more_handled shifts ≡ []
      → StopsAdding origin (drop added (keys_again origin.cause maps)) (drop more_added (keys_again origin.cause maps)) u w → StopsBy origin maps shifts handled added v w more_handled more_added

-- Where they could not all be handled, nothing was looked at, and all is as it was; or what is left is to be handled by the same maps.
pub data Stops (origin : Origin) (before : Progress) (shifts : List Shift) (ls : PerKind Lister) (v w : Known WorkState Step) (after : Progress) : Type 0 where
  unlooked : HasWaited v w → after.handled ≡ before.handled → after.added ≡ before.added → after.looks ≡ before.looks → Stops origin before shifts ls v w after
  looked : (maps : PerKind Snapshot) → AreLookedAt before.looks ls maps → after.looks ≡ Some maps
      → StopsBy origin maps shifts before.handled before.added v w after.handled after.added → Stops origin before shifts ls v w after

abbrev pub Refuses : Cause → Progress → Snapshot → List Shift → PerKind Lister → Known WorkState Step → Known WorkState Step → Progress → Type 0
Refuses cause before objects shifts ls v w after =
    (is_other before.revision objects shifts ≡ false) × Stops (origin_of before.kind objects cause) before shifts ls v w after
    × (after.revision ≡ before.revision) × (after.kind ≡ before.kind)
