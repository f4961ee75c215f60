-- What the server stores and sends is what a client of it takes in.
use Rattle.std.specs.Prelude.{◌≡◌, ◌≤◌, ◌+◌, ℕ, List, [], ◌∷◌, length, Bool, true, Some, None, Ok, IfSome, IsSome, decimal, is_some, map}
use Rattle.std.specs.List.{AllByRecursion}
use Rattle.std.specs.Str.{is_utf8}
use Rattle.serde_json.specs.Data.{Data, depth}
use Rattle.serde_json.specs.Find.{as_object}
use Rattle.serde_json.specs.Read.{read, max_depth}
use Rattle.serde_json.specs.Written.{compact_text}
use Rattle.spec_api.specs.declared.kinds.Kind.{Kind}
use Rattle.spec_api.specs.declared.versions.Start.TheVariants.{After}
use Rattle.spec_api.specs.Keys.{Key}
use Rattle.spec_api.specs.History as history
use Rattle.spec_api.specs.History.{History, Write, View, Entries, writes, present, list}
use Rattle.spec_api.specs.Objects.{Object}
use Rattle.spec_api.specs.Metadata.{name, namespace, uid, version}
use Rattle.spec_api.specs.Reading.{reading}
use Rattle.spec_api.specs.Events.{Event, events}
use Rattle.spec_api.specs.Reached.{IsReached}
use Rattle.spec_api.specs.Streams.{Line, IsStream}
use Rattle.spec_api.specs.WatchReplies.{watch_lines}
use Rattle.spec_api.specs.Verbs.{list_body}
use Rattle.spec_client_go.specs.Reflectors.{Listed, shown, name_in, list_of, put_all}

-- ---- what is stored

-- an object as it is stored under a key by the write of a revision: it reads as itself, and says its key, a uid and the revision
pub record IsKept (k : Key) (r : ℕ) (d : Data) : Type 0 where
  pub reads : reading k.kind d ≡ Ok d
  pub name : name d ≡ Some k.name
  pub namespace : namespace d ≡ Some k.namespace
  pub uid : is_some (uid d) ≡ true
  pub version : version d ≡ Some (decimal r)

-- these writes in order, the first at revision r: each object is stored so
abbrev pub AreKept : ℕ → List Write → Type 0
AreKept r [] = Unit {0}
AreKept r (w ∷ ws) = IfSome w.put (IsKept w.key r) × AreKept (r + 1) ws

-- whoever asked, each object that was ever stored reads as itself, and says its key, a uid and its revision
abbrev pub ObjectsAreKept : Type 0
ObjectsAreKept = (h : History) → IsReached h → AreKept 2 (writes h)

-- ---- what is sent

-- all of a kind, in all namespaces
abbrev pub whole : Kind → View
whole k = history.unfiltered k None

abbrev pub object_of : Kind → Event → Object
object_of k c = record { kind = k; value = c.object }

-- the object of an event is read as it stands, and names the event's key and revision
pub record IsTold (k : Kind) (c : Event) : Type 0 where
  pub shows : shown k c.object ≡ Some (record { object = object_of k c; revision = c.revision })
  pub names : name_in (object_of k c) ≡ c.key

-- the object of an event is one that a line has room for
pub record IsShort (c : Event) : Type 0 where
  pub is_object : IsSome (as_object c.object)
  pub nests : depth c.object ≤ 100
  pub fits : length (compact_text c.object) ≤ 1574912

-- whoever asked, what a watch of a kind shows is read as it stands, says its key and revision, and is short enough for a line
abbrev pub ChangesAreTold : Type 0
ChangesAreTold =
    (h : History) (k : Kind) (a b : ℕ) → IsReached h → a ≤ b
    → AllByRecursion (IsTold k) (events h (whole k) a b) × AllByRecursion IsShort (events h (whole k) a b)

-- the lines that a watch after a revision shows are a stream from there to the present revision, with bookmarks or without
abbrev pub WatchesAreStreams : Type 0
WatchesAreStreams =
    (size : ℕ) (h : History) (v : View) (a : ℕ) (bookmarks : Bool) (ls : List Line) → watch_lines size h v (record { start = After a; bookmarks = bookmarks }) ≡ Ok ls
    → (a ≤ present h) × IsStream h v a (present h) ls

-- ---- lists

-- the objects of a list of a kind
abbrev pub objects_in : Kind → Entries → List Object
objects_in k ms = map (λ m. record { kind = k; value = m.1 }) ms

-- a text that says the list of a kind at a revision
pub record IsListText (h : History) (k : Kind) (r : ℕ) (body : List ℕ) : Type 0 where
  pub reached : r ≤ present h
  pub utf8 : is_utf8 body ≡ true
  pub says : read body ≡ Some (list_body k r (list h (whole k) r))

-- the list of a kind as a reader has it
abbrev pub listed_at : History → Kind → ℕ → Listed
listed_at h k r = record { revision = r; objects = objects_in k (list h (whole k) r) }

-- who replaces what it has by the objects of a list of a kind has that list
abbrev pub ListsArePut : Type 0
ListsArePut = (h : History) (k : Kind) (r : ℕ) → IsReached h → put_all [] (objects_in k (list h (whole k) r)) ≡ list h (whole k) r

-- a text that says the list of a kind at a revision is read as that revision and the objects of that list as they stand
abbrev pub ListsAreRead : Type 0
ListsAreRead = (h : History) (k : Kind) (r : ℕ) (body : List ℕ) → IsReached h → IsListText h k r body → list_of k body ≡ Some (listed_at h k r)

-- the list of a kind nests no deeper than what is read of a text
abbrev pub ListsNest : Type 0
ListsNest = (h : History) (k : Kind) (r : ℕ) → IsReached h → depth (list_body k r (list h (whole k) r)) ≤ max_depth
