-- What a follower has published, and what it has still to publish, by what has happened at the server.
use Rattle.std.specs.Prelude.{◌≡◌, ◌≤◌, ℕ, List, [], ◌++◌, true, Option, Some, None, IfSome, is_some}
use Rattle.std.specs.List.{AllByRecursion}
use Rattle.spec_api.specs.declared.kinds.Kind.{Kind}
use Rattle.spec_api.specs.Frames.{frame_text, error_frame}
use Rattle.spec_api.specs.History.{History, present, list}
use Rattle.spec_api.specs.Reached.{IsReached}
use Rattle.spec_api.specs.Refusals.{Refusal}
use Rattle.spec_api.specs.Streams.{Line, IsStream, text_of_lines}
use Rattle.spec_api.specs.WatchReplies.{opening_lines}
use Rattle.spec_server.specs.Servers.{Server, IsServerAfter}
use Rattle.spec_server.specs.Snapshots.{Snapshot}
use Rattle.spec_client_go.specs.Informers.{all_applied}
use Rattle.spec_client_go.specs.Reflectors.{Reflector, none_yet, fed}
use Rattle.spec_laws.specs.SentLaws.{whole}
use Rattle.framing.specs.Texts.{ReadsAs}
use Rattle.reflector.specs.Laws.{IsReadBack, IsAt, IsAtStart}
use Rattle.spec_sim.specs.Followers.{Link, Follower}
use Rattle.spec_sim.specs.Moves.{Move, answers_by, move_by, move}

-- ---- what a follower is

-- the server's list of a kind at a revision, with the revision
abbrev pub list_at : History → Kind → ℕ → Snapshot
list_at h k r = record { members = list h (whole k) r; revision = r }

-- the bytes of an ERROR frame, if one was written
abbrev pub refusal_text : Option Refusal → List ℕ
refusal_text None = []
refusal_text (Some e) = frame_text (error_frame e)

-- they are read back as that frame, whatever follows
abbrev pub IsRefusalRead : Refusal → Type 0
IsRefusalRead e = ReadsAs (frame_text (error_frame e)) (error_frame e)

-- nothing of a frame is buffered, and no initial events are held
pub record IsClear (s : Reflector) : Type 0 where
  pub holds : s.buffered ≡ []
  pub initial : s.initial ≡ none_yet

-- how a reflector is where a link begins at a revision, and the lines with which it begins: it watches from there, and there are none;
-- or it asks for a stream, at a revision that is not above that one, and there is the list at that one, and the bookmark that closes it
pub data Begins (h : History) (k : Kind) (from : ℕ) (s : Reflector) : List Line → Type 0 where
  watching : IsAt s from → Begins h k from s []
  streaming : IsAtStart s → s.revision ≤ from → Begins h k from s (opening_lines true from (list h (whole k) from))

-- the link began at a revision, with its opening lines; then come lines that were written on it, a stream from there to where it
-- stands, and then maybe a refusal. That is what was read, what is written and not read, and the initial lines that are still to be
-- written. The reflector is as it is after the bytes that were read, which came to no end
pub record IsOpen (h : History) (k : Kind) (s : Reflector) (l : Link) : Type 0 where
  pub from : ℕ
  pub start : Reflector
  pub opening : List Line
  pub lines : List Line
  pub refusal : Option Refusal
  pub read : List ℕ
  pub kind : start.kind ≡ k
  pub begins : Begins h k from start opening
  pub forward : from ≤ l.stands
  pub reached : l.stands ≤ present h
  pub stream : IsStream h (whole k) from l.stands lines
  pub lines_read : AllByRecursion (IsReadBack k) (opening ++ lines)
  pub refusal_read : IfSome refusal IsRefusalRead
  pub is_refused : l.is_refused ≡ is_some refusal
  pub bytes : read ++ (l.unread ++ text_of_lines k l.initial) ≡ text_of_lines k (opening ++ lines) ++ refusal_text refusal
  pub goes_on : (fed start read).ended ≡ None
  pub taken : s ≡ (fed start read).after

-- where no link is open, the reflector holds nothing of what it read
abbrev pub IsLinked : History → Kind → Reflector → Option Link → Type 0
IsLinked h k s None = IsClear s
IsLinked h k s (Some l) = IsOpen h k s l

-- what is published is the server's list at the revision that is published with it, which the reflector has passed; with what waits
-- to be published it is the list at the reflector's revision; and the link goes on from there
pub record IsFollowing (h : History) (k : Kind) (f : Follower) : Type 0 where
  pub kind : f.reflector.kind ≡ k
  pub reached : f.reflector.revision ≤ present h
  pub published : f.informer.published ≡ list_at h k f.informer.published.revision
  pub passed : f.informer.published.revision ≤ f.reflector.revision
  pub pending : all_applied f.informer.published f.informer.pending ≡ list_at h k f.reflector.revision
  pub linked : IsLinked h k f.reflector f.link

-- ---- what moves do

-- each move leaves a follower that follows what has happened
abbrev pub MovesFollow : Type 0
MovesFollow = (k : Kind) (size : ℕ) (h : History) (f : Follower) (m : Move) → IsReached h → IsFollowing h k f → IsFollowing h k (move k size h f m).follower

-- and so does whatever else happens at the server
abbrev pub FollowersStand : Type 0
FollowersStand = (k : Kind) (h more : History) (f : Follower) → IsFollowing h k f → IsFollowing (h ++ more) k f

-- no move lowers the revision that is published
abbrev pub MovesRise : Type 0
MovesRise =
    (k : Kind) (size : ℕ) (h : History) (f : Follower) (m : Move) → IsFollowing h k f → f.informer.published.revision ≤ (move k size h f m).follower.informer.published.revision

-- ---- a server in the place of what has happened

-- a server that follows what has happened answers the same, so each move is the same by either
abbrev pub ServersServe : Type 0
ServersServe = (size : ℕ) (s : Server) (h : History) (k : Kind) (f : Follower) (m : Move) → IsServerAfter size s h → move_by k (answers_by k s) f m ≡ move k size h f m
