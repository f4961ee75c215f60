-- A reflector: what it takes in of lists and of watches, and of watches that begin with all objects (client-go, tools/cache, Reflector).
use Rattle.std.specs.Prelude.{ℕ, ◌==◌, ◌&&◌, ◌||◌, ◌++◌, List, [], ◌∷◌, map, max, nat_lt, nat_le, Bool, true, false, bytes_eq, is_some, codes, Option, Some, None, option_map, option_and_then, unwrap_or, Result, Ok, Err, if◌then◌else◌}
use Rattle.std.specs.List.{list_any}
use Rattle.std.specs.Str.{is_utf8}
use Rattle.serde_json.specs.Data.{Data, Items, no_items, item}
use Rattle.serde_json.specs.Find.{get, as_str, as_array, as_number, as_u64}
use Rattle.serde_json.specs.Read.{read}
use Rattle.spec_api.specs.declared.kinds.Kind.{Kind}
use Rattle.spec_api.specs.declared.refusals.Part.{Part}
use Rattle.spec_api.specs.declared.frames.FrameKind.{FrameKind}
use Rattle.spec_api.specs.declared.frames.FrameKind.TheVariants.{Added, Modified, Deleted, Bookmark, Error}
use Rattle.spec_client_go.specs.declared.frame_fault.FrameFault.{FrameFault}
use Rattle.spec_client_go.specs.declared.reflectors.Ask.{Ask}
use Rattle.spec_client_go.specs.declared.reflectors.Ask.TheVariants as ask
use Rattle.spec_client_go.specs.declared.reflectors.Phase.{Phase}
use Rattle.spec_client_go.specs.declared.reflectors.Phase.TheVariants.{Listing, Streaming, Watching}
use Rattle.spec_client_go.specs.declared.reflectors.End.{End}
use Rattle.spec_client_go.specs.declared.reflectors.End.TheVariants.{Expired, Unreadable}
use Rattle.spec_api.specs.Texts.Kinds.{api_version, kind_text, list_kind}
use Rattle.spec_api.specs.Texts.Keys.{Key, is_same_key}
use Rattle.spec_api.specs.State.History.{Entries, put_or_remove}
use Rattle.spec_api.specs.Objects.Metadata.{name, namespace, uid, version}
use Rattle.spec_api.specs.Objects.{Object}
use Rattle.spec_api.specs.Reading.{reading}
use Rattle.spec_api.specs.Revisions.{revision_of}
use Rattle.spec_client_go.specs.ReadFrames as frames
use Rattle.spec_api.specs.Frames.{Frame}
use Rattle.spec_client_go.specs.ReadFrames.{Read}

-- ---- what values say

-- a member that is this text
abbrev pub says : List ℕ → List ℕ → Data → Bool
says k t d = unwrap_or (option_map (bytes_eq t) (option_and_then as_str (get k d))) false

-- the revision that a value's metadata names, if it is one (Kubernetes API Concepts, Resource versions)
abbrev pub revision : Data → Option ℕ
revision d = option_and_then revision_of (version d)

-- an object that was shown, and the revision of its last write
pub record Shown : Type 0 where
  pub object : Object
  pub revision : ℕ

-- whether a value has a name, a namespace and a uid
abbrev pub has_identity : Data → Bool
has_identity d = is_some (name d) && is_some (namespace d) && is_some (uid d)

abbrev pub shown_read : Kind → Result Data Part → Option Shown
shown_read k (Err p) = None
shown_read k (Ok d) =
    if has_identity d then option_map (λ r. record { object = record { kind = k; value = d }; revision = r }) (revision d)
    else None

-- the object of a kind that a value shows: one that can be read, with its name, namespace, uid and revision
abbrev pub shown : Kind → Data → Option Shown
shown k d = shown_read k (reading k d)

-- the key of an object
abbrev pub name_in : Object → Key
name_in o = record { kind = o.kind; namespace = unwrap_or (namespace o.value) []; name = unwrap_or (name o.value) [] }

-- ---- what a list says

-- a list that was read: its revision, and its objects in their order
pub record Listed : Type 0 where
  pub revision : ℕ
  pub objects : List Object

-- the objects that items show, if each of them shows one
abbrev pub all_shown : Kind → Items → Option (List Object)
all_shown k no_items = Some []
all_shown k (item d ds) = option_and_then (λ s. option_map (λ os. s.object ∷ os) (all_shown k ds)) (shown k d)

-- whether a key occurs twice
abbrev pub repeats : List Key → Bool
repeats [] = false
repeats (n ∷ ns) = list_any (λ m. is_same_key m n) ns || repeats ns

-- these objects, if no two of them have one key
abbrev pub apart : List Object → Option (List Object)
apart os = if repeats (map name_in os) then None else Some os

abbrev pub items_shown : Kind → Data → Option (List Object)
items_shown k d = option_and_then apart (option_and_then (all_shown k) (option_and_then as_array (get (codes "items") d)))

-- whether a value calls itself a list of the kind
abbrev pub is_list : Kind → Data → Bool
is_list k d = says (codes "kind") (list_kind k) d && says (codes "apiVersion") (api_version k) d

-- a list of the kind, with a revision and with items that each show an object, no two under one key (Kubernetes API Concepts, Collections)
abbrev pub list_in : Kind → Data → Option Listed
list_in k d = if is_list k d then option_and_then (λ r. option_map (λ os. record { revision = r; objects = os }) (items_shown k d)) (revision d) else None

-- the list that a body is read as, if it is one
abbrev pub list_of : Kind → List ℕ → Option Listed
list_of k body = if is_utf8 body then option_and_then (list_in k) (read body) else None

-- ---- deltas, and the map that they are applied to

-- what becomes of the map, and the revision that is named with it
pub data Delta : Type 0 where
  replace : ℕ → List Object → Delta
  put : Object → Delta
  remove : ℕ → Key → Delta
  mark : ℕ → Delta

abbrev pub put_in : Entries → Object → Entries
put_in ms o = put_or_remove ms (name_in o) (Some o.value)

-- objects put one after another
abbrev pub put_all : Entries → List Object → Entries
put_all ms [] = ms
put_all ms (o ∷ os) = put_all (put_in ms o) os

abbrev pub apply_delta : Entries → Delta → Entries
apply_delta ms (replace r os) = put_all [] os
apply_delta ms (put o) = put_in ms o
apply_delta ms (remove r n) = put_or_remove ms n None
apply_delta ms (mark r) = ms

-- deltas applied one after another
abbrev pub apply_deltas : Entries → List Delta → Entries
apply_deltas ms [] = ms
apply_deltas ms (d ∷ ds) = apply_deltas (apply_delta ms d) ds

-- ---- what a frame does

-- a frame that was taken in: the revision from then on, and what becomes of the map
pub record Step : Type 0 where
  pub revision : ℕ
  pub delta : Delta

-- a revision above the last one
abbrev pub if_above : ℕ → Shown → Option Shown
if_above last s = if nat_lt last s.revision then Some s else None

-- an object shown at a revision above the last one
abbrev pub shown_above : Kind → ℕ → Data → Option Shown
shown_above k last d = option_and_then (if_above last) (shown k d)

-- the revision of a bookmark of the kind, which may be the last one again (Kubernetes API Concepts, Watch bookmarks)
abbrev pub if_reached : ℕ → ℕ → Option ℕ
if_reached last r = if nat_le last r then Some r else None

-- whether a value calls itself of the kind
abbrev pub is_of : Kind → Data → Bool
is_of k d = says (codes "kind") (kind_text k) d && says (codes "apiVersion") (api_version k) d

abbrev pub marked : Kind → ℕ → Data → Option ℕ
marked k last d = if is_of k d then option_and_then (if_reached last) (revision d) else None

-- the code of a Status (Kubernetes API Conventions, Response Status Kind)
abbrev pub code : Data → Option ℕ
code d = option_and_then as_u64 (option_and_then as_number (get (codes "code") d))

-- whether it says that the events asked for are gone (RFC 9110, 410 Gone)
abbrev pub is_expiry : Data → Bool
is_expiry d = unwrap_or (option_map (λ n. n == 410) (code d)) false

abbrev pub error_end : Data → End
error_end d = if is_expiry d then Expired else Unreadable

abbrev pub or_unreadable : Option Step → Result Step End
or_unreadable None = Err Unreadable
or_unreadable (Some t) = Ok t

abbrev pub put_step : Shown → Step
put_step s = record { revision = s.revision; delta = put s.object }

abbrev pub remove_step : Shown → Step
remove_step s = record { revision = s.revision; delta = remove s.revision (name_in s.object) }

abbrev pub mark_step : ℕ → Step
mark_step r = record { revision = r; delta = mark r }

abbrev pub step_by : FrameKind → Kind → ℕ → Data → Result Step End
step_by Added k last d = or_unreadable (option_map put_step (shown_above k last d))
step_by Modified k last d = or_unreadable (option_map put_step (shown_above k last d))
step_by Deleted k last d = or_unreadable (option_map remove_step (shown_above k last d))
step_by Bookmark k last d = or_unreadable (option_map mark_step (marked k last d))
step_by Error k last d = Err (error_end d)

-- what a frame does where the last revision is this one, or the end that it is
abbrev pub step : Kind → ℕ → Frame → Result Step End
step k last e = step_by e.kind k last e.object

-- frames that were taken in: their deltas, the revision from then on, and the end, if one of them was one
pub record Run : Type 0 where
  pub deltas : List Delta
  pub revision : ℕ
  pub ended : Option End

abbrev pub first_delta : Delta → Run → Run
first_delta d r = record { deltas = d ∷ r.deltas; revision = r.revision; ended = r.ended }

abbrev pub going_on : ℕ → (ℕ → Run) → Result Step End → Run
going_on last more (Err e) = record { deltas = []; revision = last; ended = Some e }
going_on last more (Ok t) = first_delta t.delta (more t.revision)

-- frames in order, up to the first that is an end
abbrev pub run : Kind → ℕ → List Frame → Run
run k last [] = record { deltas = []; revision = last; ended = None }
run k last (e ∷ es) = going_on last (λ r. run k r es) (step k last e)

-- ---- initial events (Kubernetes API Concepts, Streaming lists)

-- the map that the initial events make so far, and the highest of their revisions
pub record Initial : Type 0 where
  pub members : Entries
  pub highest : ℕ

-- none came yet
abbrev pub none_yet : Initial
none_yet = record { members = []; highest = 0 }

-- one more is played on the map
abbrev pub played : Initial → Step → Initial
played i t = record { members = apply_delta i.members t.delta; highest = max i.highest t.revision }

-- the objects of a map, in the order of their keys
abbrev pub objects_of : Entries → List Object
objects_of ms = map (λ m. record { kind = m.0.kind; value = m.1 }) ms

-- whether a bookmark says that the initial events end with it
abbrev pub is_closing : Data → Bool
is_closing d = unwrap_or (option_map (says (codes "k8s.io/initial-events-end") (codes "true")) (option_and_then (get (codes "annotations")) (get (codes "metadata") d))) false

-- what a frame among them does: there are these now, or they are all there, at a revision
pub data Opening : Type 0 where
  under_way : Initial → Opening
  closed : ℕ → Opening

abbrev pub opening : Option Opening → Result Opening End
opening None = Err Unreadable
opening (Some o) = Ok o

-- the closing bookmark names a revision that none of them is above; another bookmark is passed over
abbrev pub bookmark_opening : Bool → Kind → Initial → Data → Option Opening
bookmark_opening true k i d = option_map closed (marked k i.highest d)
bookmark_opening false k i d = option_map (λ r. under_way i) (marked k 0 d)

-- what a frame does to the initial events so far; the revisions of initial events need not rise
abbrev pub opening_by : FrameKind → Kind → Initial → Data → Result Opening End
opening_by Added k i d = opening (option_map (λ s. under_way (played i (put_step s))) (shown k d))
opening_by Modified k i d = opening (option_map (λ s. under_way (played i (put_step s))) (shown k d))
opening_by Deleted k i d = opening (option_map (λ s. under_way (played i (remove_step s))) (shown k d))
opening_by Bookmark k i d = opening (bookmark_opening (is_closing d) k i d)
opening_by Error k i d = Err (error_end d)

abbrev pub opening_step : Kind → Initial → Frame → Result Opening End
opening_step k i e = opening_by e.kind k i e.object

-- what frames gave, how far a reflector is then, and the initial events that are under way then
pub record Course : Type 0 where
  pub run : Run
  pub phase : Phase
  pub initial : Initial

abbrev pub stays : Phase → ℕ → Initial → Option End → Course
stays p last i e = record { run = record { deltas = []; revision = last; ended = e }; phase = p; initial = i }

-- the initial events are the whole map at their revision, and a watch goes on from there
abbrev pub closes : ℕ → Initial → Run → Course
closes r i t = record { run = first_delta (replace r (objects_of i.members)) t; phase = Watching; initial = none_yet }

abbrev pub opens_on : ℕ → Initial → (Initial → Course) → (ℕ → Run) → Result Opening End → Course
opens_on last i on watch (Err e) = stays Streaming last i (Some e)
opens_on last i on watch (Ok (under_way j)) = on j
opens_on last i on watch (Ok (closed r)) = closes r i (watch r)

-- frames in order, up to the first that is an end: until the closing bookmark nothing is given, and the revision stays
abbrev pub open_run : Kind → ℕ → Initial → List Frame → Course
open_run k last i [] = stays Streaming last i None
open_run k last i (e ∷ es) = opens_on last i (λ j. open_run k last j es) (λ r. run k r es) (opening_step k i e)

-- frames where a reflector is so far
abbrev pub course : Phase → Kind → ℕ → Initial → List Frame → Course
course Listing k last i es = stays Listing last i None
course Streaming k last i es = open_run k last i es
course Watching k last i es = record { run = run k last es; phase = Watching; initial = i }

-- ---- a reflector

-- of a kind: the last revision, how far it is, the bytes buffered of a frame that is not whole yet, whether it asks for streams
-- of initial events in place of lists, and the initial events under way
pub record Reflector : Type 0 where
  pub kind : Kind
  pub revision : ℕ
  pub phase : Phase
  pub buffered : List ℕ
  pub is_streaming : Bool
  pub initial : Initial

-- where the whole map is to come from
abbrev pub first_phase : Bool → Phase
first_phase false = Listing
first_phase true = Streaming

-- nothing was taken in yet
abbrev pub begun_by : Bool → Kind → Reflector
begun_by b k = record { kind = k; revision = 0; phase = first_phase b; buffered = []; is_streaming = b; initial = none_yet }

abbrev pub begun : Kind → Reflector
begun k = begun_by false k

abbrev pub begun_streaming : Kind → Reflector
begun_streaming k = begun_by true k

abbrev pub ask_at : Phase → ℕ → Ask
ask_at Listing r = ask.List
ask_at Streaming r = ask.Stream
ask_at Watching r = ask.Watch r

-- what it asks for: the whole map at first, after an expiry and after what could not be read; else a watch
abbrev pub asks : Reflector → Ask
asks s = ask_at s.phase s.revision

-- the reflector at a revision, with nothing buffered and no initial events
abbrev pub turned : Phase → ℕ → Reflector → Reflector
turned p r s = record { kind = s.kind; revision = r; phase = p; buffered = []; is_streaming = s.is_streaming; initial = none_yet }

-- a list that was read is taken in; another changes nothing
abbrev pub with_list : Option Listed → Reflector → Reflector
with_list None s = s
with_list (Some l) s = turned Watching l.revision s

abbrev pub list_delta : Listed → Delta
list_delta l = replace l.revision l.objects

-- the frame that is not whole is dropped, and so are initial events that are not closed
abbrev pub cut : Reflector → Reflector
cut s = turned s.phase s.revision s

-- a list that is asked for is asked for until it comes
abbrev pub anew : Phase → Bool → Phase
anew Listing b = Listing
anew Streaming b = first_phase b
anew Watching b = first_phase b

-- the whole map is asked for again
abbrev pub expired : Reflector → Reflector
expired s = turned (anew s.phase s.is_streaming) s.revision s

-- a stream is refused: a list is asked for
abbrev pub refused : Reflector → Reflector
refused s = turned Listing s.revision s

-- what bytes gave: deltas in order, the end if they came to one, and the reflector from then on
pub record Fed : Type 0 where
  pub deltas : List Delta
  pub ended : Option End
  pub after : Reflector

abbrev pub nothing : Reflector → Fed
nothing s = record { deltas = []; ended = None; after = s }

-- an end among the frames, or bytes after them that are none
abbrev pub end_of : Option End → Option FrameFault → Option End
end_of (Some e) fault = Some e
end_of None (Some f) = Some Unreadable
end_of None None = None

-- after an end the whole map is asked for
abbrev pub phase_after : Bool → Phase → Option End → Phase
phase_after b p (Some e) = first_phase b
phase_after b p None = p

-- and the initial events are dropped
abbrev pub initial_after : Option End → Initial → Initial
initial_after (Some e) i = none_yet
initial_after None i = i

-- and the buffered bytes are dropped
abbrev pub held_after : Option End → List ℕ → List ℕ
held_after (Some e) buffered = []
held_after None buffered = buffered

abbrev pub left_by : Option End → Course → List ℕ → Reflector → Reflector
left_by e c buffered s =
    record { kind = s.kind; revision = c.run.revision; phase = phase_after s.is_streaming c.phase e; buffered = held_after e buffered; is_streaming = s.is_streaming; initial = initial_after e c.initial }

abbrev pub ran : Course → Read → Reflector → Fed
ran c r s = record { deltas = c.run.deltas; ended = end_of c.run.ended r.fault; after = left_by (end_of c.run.ended r.fault) c r.buffered s }

abbrev pub watched : Phase → Read → Reflector → Fed
watched p r s = ran (course p s.kind s.revision s.initial r.events) r s

-- bytes after those buffered; while a list is asked for they are ignored
abbrev pub fed_in : Phase → List ℕ → Reflector → Fed
fed_in Listing bytes s = nothing s
fed_in Streaming bytes s = watched Streaming (frames.reading bytes) s
fed_in Watching bytes s = watched Watching (frames.reading bytes) s

abbrev pub fed : Reflector → List ℕ → Fed
fed s piece = fed_in s.phase (s.buffered ++ piece) s

-- ---- the pieces of one answer, one after another

-- after an end nothing more is taken in
abbrev pub joined : Option End → Fed → Fed → Fed
joined (Some e) f g = f
joined None f g = record { deltas = f.deltas ++ g.deltas; ended = g.ended; after = g.after }

abbrev pub all_fed : Reflector → List (List ℕ) → Fed
all_fed s [] = nothing s
all_fed s (p ∷ ps) = joined (fed s p).ended (fed s p) (all_fed (fed s p).after ps)
