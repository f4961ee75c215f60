-- What a follower makes of what a server answers, and how it stands with the server then.
use Rattle.std.specs.Prelude.{◌≡◌, ◌⊎◌, ℕ, List, Bool, true, false, is_some, Option, Some, None, option_map, Result, Ok, Err}
use Rattle.spec_api.specs.declared.kinds.Kind.{Kind}
use Rattle.spec_server.specs.Snapshots.{Snapshot}
use Rattle.spec_client_go.specs.Reflectors.{asks, fed}
use Rattle.spec_client_go.specs.declared.reflectors.Ask.TheVariants as ask
use Rattle.http_client.specs.Waits.{milliseconds_asked}
use Rattle.http_client.specs.declared.answer.Answer.{Answer}
use Rattle.http_client.specs.declared.more.More.{More}
use Rattle.api_client.specs.Exchanges.{Exchange, list, first, watch, stream, read, understood, not_understood, piece_in, milliseconds_at}
use Rattle.api_client.specs.declared.opened.Opened.{Opened}
use Rattle.api_client.specs.declared.opened.Opened.TheVariants as opened
use Rattle.list_and_watch.specs.Answered.{body_in, listed_in, after_opened, after_stream_opened, piece_of}
use Rattle.list_and_watch.specs.Followers.{Follower, after_list, after_bytes, after_cut, after_expiry}
use Rattle.list_and_watch.specs.Recognized.{recognized}
use Rattle.list_and_watch.specs.declared.recognizing.Recognized.{Recognized}
use Rattle.list_and_watch.specs.declared.recognizing.Recognized.TheVariants.{Same, Other, Unknown, Unanswered}
use Rattle.list_and_watch.specs.declared.tries.Piece.{Piece}
use Rattle.list_and_watch.specs.declared.tries.Piece.TheVariants as piece

-- ---- what is taken in

-- where it may be or is another server, a list is asked for
abbrev pub after_recognized : Recognized → Follower → Follower
after_recognized Same f = f
after_recognized Other f = after_expiry f
after_recognized Unknown f = after_expiry f
after_recognized Unanswered f = f

-- what a first object says to who has this follower's copy
abbrev pub recognized_by : Kind → ℕ → Answer → Follower → Recognized
recognized_by k r a f = recognized k r f.informer.published.members a

abbrev pub after_piece : Option (List ℕ) → Follower → Follower
after_piece None f = f
after_piece (Some bytes) f = after_bytes bytes f

-- a list that came is taken in, and so are bytes, once, or there is no memory for them, and the watch is cut; where there is none for what a first
-- object says, nothing is made of it
abbrev pub after_exchange : Exchange → Bool → Follower → Follower
after_exchange (list k a) true f = after_list (listed_in f.reflector.kind a) f
after_exchange (list k a) false f = f
after_exchange (first k r a) true f = after_recognized (recognized_by k r a f) f
after_exchange (first k r a) false f = f
after_exchange (watch k r o) memory f = after_opened o f
after_exchange (stream k o) memory f = after_stream_opened o f
after_exchange (read m buffer) true f = after_piece (piece_in m buffer) f
after_exchange (read m buffer) false f = after_cut f
after_exchange understood memory f = f
after_exchange (not_understood bytes) memory f = f

-- ---- how it stands with the server

-- whether a watch is open, for how many milliseconds the server is to be left alone, and what it is still to be told of what came
pub record Dealings : Type 0 where
  pub is_open : Bool
  pub milliseconds : ℕ
  pub due : Option Exchange

-- it was asked to be left alone for so long
abbrev pub left_for : ℕ → Dealings
left_for n = record { is_open = false; milliseconds = n; due = None }

-- it can be asked
abbrev pub idle : Dealings
idle = left_for 0

-- a watch is open, and can be read
abbrev pub watching : Dealings
watching = record { is_open = true; milliseconds = 0; due = None }

-- that bytes were understood, or were not
abbrev pub note_of : Bool → List ℕ → Exchange
note_of true bytes = understood
note_of false bytes = not_understood bytes

-- a body that is a list was understood, and another was not
abbrev pub note_of_list : Kind → Answer → Option Exchange
note_of_list k a = option_map (note_of (is_some (listed_in k a))) (body_in a)

-- so was one that says anything of the server
abbrev pub is_answered : Recognized → Bool
is_answered Same = true
is_answered Other = true
is_answered Unknown = true
is_answered Unanswered = false

abbrev pub note_of_first : Recognized → Answer → Option Exchange
note_of_first said a = option_map (note_of (is_answered said)) (body_in a)

-- and so were bytes after which the watch goes on; nothing is told of its expiry, nor of bytes for which there was no memory
abbrev pub note_of_piece : Piece → List ℕ → Option Exchange
note_of_piece piece.GoesOn bytes = Some understood
note_of_piece piece.Expired bytes = None
note_of_piece piece.Unreadable bytes = Some (not_understood bytes)
note_of_piece piece.Dropped bytes = None

abbrev pub goes_on : Piece → Bool
goes_on piece.GoesOn = true
goes_on piece.Expired = false
goes_on piece.Unreadable = false
goes_on piece.Dropped = false

abbrev pub is_open : Opened → Bool
is_open opened.Open = true
is_open opened.Expired = false
is_open (opened.Refused code wait) = false
is_open opened.Lost = false

abbrev pub at_opened : Opened → Dealings
at_opened o = record { is_open = is_open o; milliseconds = milliseconds_at o; due = None }

-- the watch goes on or not, and what is to be told of the bytes is due, or was told
abbrev pub at_piece : Piece → Option Exchange → Dealings
at_piece p due = record { is_open = goes_on p; milliseconds = 0; due = due }

-- what came of a watch that was read: bytes, of which was told what was to be told, or no more of them
abbrev pub at_read : Result Piece More → Dealings
at_read (Ok p) = at_piece p None
at_read (Err m) = idle

-- a watch is over where no bytes come
abbrev pub dealings_at : Option (List ℕ) → Follower → Dealings
dealings_at None f = idle
dealings_at (Some bytes) f = at_piece (piece_of (fed f.reflector bytes).ended) (note_of_piece (piece_of (fed f.reflector bytes).ended) bytes)

-- nothing is due any more
abbrev pub noted : Dealings → Dealings
noted d = record { is_open = d.is_open; milliseconds = d.milliseconds; due = None }

-- the watch is left
abbrev pub closed : Dealings → Dealings
closed d = record { is_open = false; milliseconds = d.milliseconds; due = d.due }

-- after a request the watch that it opened is open, if one is, and the server is to be left alone for as long as it asks
abbrev pub dealings_after : Exchange → Bool → Follower → Dealings → Dealings
dealings_after (list k a) true f d = record { is_open = false; milliseconds = milliseconds_asked a; due = note_of_list f.reflector.kind a }
dealings_after (list k a) false f d = left_for (milliseconds_asked a)
dealings_after (first k r a) true f d = record { is_open = false; milliseconds = milliseconds_asked a; due = note_of_first (recognized_by k r a f) a }
dealings_after (first k r a) false f d = left_for (milliseconds_asked a)
dealings_after (watch k r o) memory f d = at_opened o
dealings_after (stream k o) memory f d = at_opened o
dealings_after (read m buffer) true f d = dealings_at (piece_in m buffer) f
dealings_after (read m buffer) false f d = idle
dealings_after understood memory f d = noted d
dealings_after (not_understood bytes) memory f d = noted d

-- ---- what may be asked

-- A server that is not to be left alone, and was told what it was to be told, is asked what the reflector of a kind asks for: a list, a watch after its
-- own revision, or a stream; or for the first object at the revision that is published. A watch is read while it is open, and the server is told what is
-- due.
abbrev pub MayAsk : Kind → Follower → Dealings → Exchange → Type 0
MayAsk kind f d (list k a) = (k ≡ kind) × (d ≡ idle) × (asks f.reflector ≡ ask.List)
MayAsk kind f d (first k r a) = (k ≡ kind) × (d ≡ idle) × (r ≡ f.informer.published.revision)
MayAsk kind f d (watch k r o) = (k ≡ kind) × (d ≡ idle) × (asks f.reflector ≡ ask.Watch r)
MayAsk kind f d (stream k o) = (k ≡ kind) × (d ≡ idle) × (asks f.reflector ≡ ask.Stream)
MayAsk kind f d (read m buffer) = d ≡ watching
MayAsk kind f d understood = d.due ≡ Some understood
MayAsk kind f d (not_understood bytes) = d.due ≡ Some (not_understood bytes)

-- ---- calls

module _ {A : Type 0} (exchanges : A → Exchange → A → Type 0) where
  -- the server is told what is due, if something is
  abbrev pub Notes : Option Exchange → A → A → Type 0
  Notes None before after = after ≡ before
  Notes (Some e) before after = exchanges before e after

  -- a sink hears of another server, and the server is told nothing; or it is told what is due
  abbrev pub IsNoted : {S : Type 0} → (S → S → Type 0) → Option Exchange → S × A → S × A → Type 0
  IsNoted hears due before after = (hears before.0 after.0 × (after.1 ≡ before.1)) ⊎ ((after.0 ≡ before.0) × Notes due before.1 after.1)

  -- what an answer says, or nothing where there is no memory to read it; and the server is told whether it was understood
  abbrev pub Says : Kind → Snapshot → A → Answer → Recognized → A → Type 0
  Says k copy asked a said after =
      ((said ≡ recognized k copy.revision copy.members a) × Notes (note_of_first said a) asked after) ⊎ ((said ≡ Unanswered) × (after ≡ asked))

  -- Who holds a copy asks for the first object at its revision, and is told this of the server; who holds none does not ask, and it is the same.
  pub data IsFound (k : Kind) (copy : Snapshot) (before : A) (said : Recognized) (milliseconds : ℕ) (after : A) : Type 0 where
    unasked : copy.revision ≡ 0 → said ≡ Same → milliseconds ≡ 0 → after ≡ before → IsFound k copy before said milliseconds after
    asked : (a : Answer) (between : A) → exchanges before (first k copy.revision a) between → Says k copy between a said after → milliseconds ≡ milliseconds_asked a
        → IsFound k copy before said milliseconds after
