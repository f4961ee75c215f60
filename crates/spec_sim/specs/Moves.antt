-- Moves: what a follower and its link do, each a function of what the server answers to those who follow the kind.
use Rattle.std.specs.Prelude.{ℕ, ◌==◌, List, [], ◌∷◌, ◌++◌, length, map, take, drop, true, Option, Some, None, Result, Ok, Err, if◌then◌else◌}
use Rattle.spec_api.specs.declared.kinds.Kind.{Kind}
use Rattle.spec_api.specs.Frames.{frame_text, error_frame}
use Rattle.spec_api.specs.History as history
use Rattle.spec_api.specs.History.{History, Entries, present, viewed, unfiltered}
use Rattle.spec_api.specs.Refusals.{Refusal}
use Rattle.spec_api.specs.Streams.{Line, event, bookmark, text_of_lines}
use Rattle.spec_api.specs.Versions.{Watched, watched_from}
use Rattle.spec_server.specs.Servers.{Server, watch_by}
use Rattle.spec_client_go.specs.declared.reflectors.End.{End}
use Rattle.spec_client_go.specs.declared.reflectors.Phase.{Phase}
use Rattle.spec_client_go.specs.declared.reflectors.Phase.TheVariants.{Listing, Streaming, Watching}
use Rattle.spec_client_go.specs.Reflectors as reflectors
use Rattle.spec_client_go.specs.Reflectors.{Listed, Fed}
use Rattle.spec_sim.specs.Followers.{Link, Follower, after_list, after_open, after_stream, after_expiry, after_bytes, after_cut, after_publishing}

-- a list is answered and taken in; a watch is opened, or one that begins with all that is there; the server writes the next lines on
-- it, at most so many, or a bookmark; the next bytes, at most so many, or all, are delivered; the link is cut; what waits is published
pub data Move : Type 0 where
  list : Move
  watch : Move
  stream : Move
  send : ℕ → Move
  send_bookmark : Move
  deliver : ℕ → Move
  deliver_all : Move
  cut : Move
  publish : Move

-- what is told of a step: the line that a request is answered; that it was not open; or what came of a move of a kind
pub data Outcome : Type 0 where
  replied : List ℕ → Outcome
  no_step : Outcome
  listed : Kind → ℕ → ℕ → Outcome
  opened : Kind → ℕ → Outcome
  streaming : Kind → ℕ → Outcome
  expired : Kind → Outcome
  sent : Kind → ℕ → Outcome
  fed : Kind → ℕ → Option End → Outcome
  was_cut : Kind → ℕ → Outcome
  published : Kind → ℕ → ℕ → Outcome
  restarted : Outcome

-- ---- what a server answers

-- what is answered of all objects of a kind: the present revision, the list there, and the first changes that a watch from a revision is given, at most so many
pub record Answers : Type 0 where
  pub present : ℕ
  pub members : Entries
  pub watched : ℕ → ℕ → Result Watched Refusal

-- by what has happened, with windows of this size
abbrev pub answers_after : Kind → ℕ → History → Answers
answers_after k size h = record { present = present h; members = history.list h (unfiltered k None) (present h); watched = watched_from size h (unfiltered k None) }

-- by what a server stores
abbrev pub answers_by : Kind → Server → Answers
answers_by k s = record { present = s.snapshot.revision; members = viewed (unfiltered k None) s.snapshot.members; watched = watch_by s (unfiltered k None) }

-- the list of a kind as a reflector takes it in
abbrev pub listed_of : Kind → Answers → Listed
listed_of k a = record { revision = a.present; objects = map (λ m. record { kind = k; value = m.1 }) a.members }

-- ---- moves

-- a follower after a move, and what is told of it
pub record Moved : Type 0 where
  pub follower : Follower
  pub outcome : Outcome

-- a move that is not open changes nothing
abbrev pub closed : Follower → Moved
closed f = record { follower = f; outcome = no_step }

-- ---- lists

abbrev pub take_list : Kind → Listed → Follower → Moved
take_list k l f = record { follower = after_list l f; outcome = listed k l.revision (length l.objects) }

-- the present list is taken in, where the reflector asks for a list (Kubernetes API Concepts, Collections)
abbrev pub list_in : Kind → Phase → Answers → Follower → Moved
list_in k Listing a f = take_list k (listed_of k a) f
list_in k Streaming a f = closed f
list_in k Watching a f = closed f

-- ---- watches

abbrev pub open_by : Kind → Result Watched Refusal → Follower → Moved
open_by k (Ok w) f = record { follower = after_open f; outcome = opened k f.reflector.revision }
open_by k (Err e) f = record { follower = after_expiry f; outcome = expired k }

-- a watch is opened from the reflector's revision, where it asks for a watch and no link is open; where it is refused, what is there
-- is asked for again (Kubernetes API Concepts, Efficient detection of changes)
abbrev pub watch_in : Kind → Phase → Option Link → Answers → Follower → Moved
watch_in k Watching None a f = open_by k (a.watched f.reflector.revision 0) f
watch_in k Watching (Some l) a f = closed f
watch_in k Listing l a f = closed f
watch_in k Streaming l a f = closed f

-- ---- streams of initial events

abbrev pub open_stream : Kind → Answers → Follower → Moved
open_stream k a f = record { follower = after_stream a.present a.members f; outcome = streaming k a.present }

-- a watch is opened that begins with what is there at the present revision, where the reflector asks for one and no link is open
-- (Kubernetes API Concepts, Streaming lists)
abbrev pub stream_in : Kind → Phase → Option Link → Answers → Follower → Moved
stream_in k Streaming None a f = open_stream k a f
stream_in k Streaming (Some l) a f = closed f
stream_in k Listing l a f = closed f
stream_in k Watching l a f = closed f

-- ---- what is written on a link

abbrev pub with_link : Link → Follower → Follower
with_link l f = record f { link = Some l }

-- these lines are written, and the link stands at this revision
abbrev pub after_lines : Kind → List Line → ℕ → Link → Link
after_lines k ls r l = record { stands = r; initial = l.initial; unread = l.unread ++ text_of_lines k ls; is_refused = l.is_refused }

-- an ERROR frame is written, the last one
abbrev pub after_refusal : Refusal → Link → Link
after_refusal e l = record { stands = l.stands; initial = l.initial; unread = l.unread ++ frame_text (error_frame e); is_refused = true }

-- the next of the initial lines are written, at most n
abbrev pub after_initial : Kind → ℕ → Link → Link
after_initial k n l = record { stands = l.stands; initial = drop n l.initial; unread = l.unread ++ text_of_lines k (take n l.initial); is_refused = l.is_refused }

abbrev pub write_refusal : Kind → Refusal → Link → Follower → Moved
write_refusal k e l f = record { follower = with_link (after_refusal e l) f; outcome = sent k 1 }

abbrev pub write_changes : Kind → Result Watched Refusal → Link → Follower → Moved
write_changes k (Ok w) l f = record { follower = with_link (after_lines k (map event w.events) w.stands l) f; outcome = sent k (length w.events) }
write_changes k (Err e) l f = write_refusal k e l f

abbrev pub write_initial : Kind → ℕ → Link → Follower → Moved
write_initial k n l f = record { follower = with_link (after_initial k n l) f; outcome = sent k (length (take n l.initial)) }

-- while initial lines are left, only they are written, whatever has happened since
abbrev pub send_next : Kind → List Line → ℕ → Answers → Link → Follower → Moved
send_next k [] n a l f = write_changes k (a.watched l.stands n) l f
send_next k (i ∷ is) n a l f = write_initial k n l f

-- the next initial lines, or else the next changes, at most n, where a link is open and no ERROR frame was written
abbrev pub send_on : Kind → Option Link → ℕ → Answers → Follower → Moved
send_on k None n a f = closed f
send_on k (Some l) n a f = if l.is_refused then closed f else send_next k l.initial n a l f

abbrev pub write_bookmark : Kind → Result Watched Refusal → ℕ → Link → Follower → Moved
write_bookmark k (Ok w) now l f =
    if w.stands == now then record { follower = with_link (after_lines k (bookmark now ∷ []) now l) f; outcome = sent k 1 }
    else closed f
write_bookmark k (Err e) now l f = write_refusal k e l f

abbrev pub bookmark_next : Kind → List Line → Answers → Link → Follower → Moved
bookmark_next k [] a l f = write_bookmark k (a.watched l.stands 0) a.present l f
bookmark_next k (i ∷ is) a l f = closed f

-- a bookmark at the present revision, where a link is open, no ERROR frame was written, and neither an initial line nor a change is
-- left to send (Kubernetes API Concepts, Watch bookmarks)
abbrev pub bookmark_on : Kind → Option Link → Answers → Follower → Moved
bookmark_on k None a f = closed f
bookmark_on k (Some l) a f = if l.is_refused then closed f else bookmark_next k l.initial a l f

-- ---- what is read of a link

-- an end closes the link
abbrev pub left_open : Option End → Link → Option Link
left_open None l = Some l
left_open (Some e) l = None

abbrev pub take_bytes : Kind → Fed → Link → Follower → Moved
take_bytes k r l f = record { follower = after_bytes r (left_open r.ended l) f; outcome = fed k r.after.revision r.ended }

-- the next bytes, at most n
abbrev pub deliver_from : Kind → ℕ → Link → Follower → Moved
deliver_from k n l f = take_bytes k (reflectors.fed f.reflector (take n l.unread)) (record l { unread = drop n l.unread }) f

abbrev pub deliver_on : Kind → Option Link → ℕ → Follower → Moved
deliver_on k None n f = closed f
deliver_on k (Some l) n f = deliver_from k n l f

abbrev pub deliver_all_on : Kind → Option Link → Follower → Moved
deliver_all_on k None f = closed f
deliver_all_on k (Some l) f = deliver_from k (length l.unread) l f

abbrev pub cut_on : Kind → Option Link → Follower → Moved
cut_on k None f = closed f
cut_on k (Some l) f = record { follower = after_cut f; outcome = was_cut k f.reflector.revision }

-- ---- what is published

abbrev pub publish_now : Kind → Follower → Moved
publish_now k f =
    let after = after_publishing f in
    record { follower = after; outcome = published k after.informer.published.revision (length after.informer.published.members) }

-- what waits is published, once a list or closed initial events were taken in: until then the reflector names no revision
abbrev pub publish_by : Kind → Follower → Moved
publish_by k f = if f.reflector.revision == 0 then closed f else publish_now k f

-- ---- a move

-- of the follower of a kind, by what the server answers
abbrev pub move_by : Kind → Answers → Follower → Move → Moved
move_by k a f list = list_in k f.reflector.phase a f
move_by k a f watch = watch_in k f.reflector.phase f.link a f
move_by k a f stream = stream_in k f.reflector.phase f.link a f
move_by k a f (send n) = send_on k f.link n a f
move_by k a f send_bookmark = bookmark_on k f.link a f
move_by k a f (deliver n) = deliver_on k f.link n f
move_by k a f deliver_all = deliver_all_on k f.link f
move_by k a f cut = cut_on k f.link f
move_by k a f publish = publish_by k f

-- after all that has happened at a server with windows of this size
abbrev pub move : Kind → ℕ → History → Follower → Move → Moved
move k size h f m = move_by k (answers_after k size h) f m
