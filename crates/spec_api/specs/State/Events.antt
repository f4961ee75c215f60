-- The events of a view: what each write does to the objects that the view asks for.
use Rattle.std.specs.Prelude.{ℕ, ◌+◌, ◌-◌, List, [], ◌∷◌, ◌++◌, length, drop, Option, Some, None}
use Rattle.serde_json.specs.Data.{Data}
use Rattle.spec_api.specs.Texts.Keys.{Key}
use Rattle.spec_api.specs.State.History.{History, Write, View, Entries, up_to, last_of, put_or_remove, seen}
use Rattle.spec_api.specs.Objects.Metadata.{metadata_of, at_revision}
use Rattle.spec_api.specs.declared.frames.ChangeKind.{ChangeKind}
use Rattle.spec_api.specs.declared.frames.ChangeKind.TheVariants.{Added, Modified, Deleted}

-- what a view sees of a write: what it did to an object, its revision, the object's key, and the object as it is shown
pub record Event : Type 0 where
  pub kind : ChangeKind
  pub revision : ℕ
  pub key : Key
  pub object : Data

-- an object as it was, at the revision of the write by which it is removed
abbrev pub gone_at : ℕ → Data → Data
gone_at r d = at_revision r (metadata_of d) d

-- the event, if there is one, by whether the view shows an object before the write of revision r, and whether it shows one after it (Kubernetes API Concepts, Efficient detection of changes)
abbrev pub event_of : ℕ → Key → Option Data → Option Data → List Event
event_of r k None None = []
event_of r k None (Some new) = record { kind = Added; revision = r; key = k; object = new } ∷ []
event_of r k (Some old) (Some new) = record { kind = Modified; revision = r; key = k; object = new } ∷ []
event_of r k (Some old) None = record { kind = Deleted; revision = r; key = k; object = gone_at r old } ∷ []

-- the event, if there is one, of a write after these
abbrev pub event_of_write : View → List Write → Write → List Event
event_of_write v before w = event_of (length before + 2) w.key (seen v w.key (last_of None w.key before)) (seen v w.key w.put)

-- the events of writes after these, in order
abbrev pub events_after : View → List Write → List Write → List Event
events_after v before [] = []
events_after v before (w ∷ ws) = event_of_write v before w ++ events_after v (before ++ w ∷ []) ws

-- the events of the writes with a revision above a and up to b, in order
abbrev pub events : History → View → ℕ → ℕ → List Event
events h v a b = events_after v (up_to a h) (drop (a - 1) (up_to b h))

-- ---- what they make of the list

-- what is there of the object after the event
abbrev pub put_of : ChangeKind → Data → Option Data
put_of Deleted d = None
put_of kind d = Some d

-- an event applied to what is there
abbrev pub apply : Entries → Event → Entries
apply ms c = put_or_remove ms c.key (put_of c.kind c.object)

-- events applied one after another
abbrev pub applied : Entries → List Event → Entries
applied ms [] = ms
applied ms (c ∷ cs) = applied (apply ms c) cs
