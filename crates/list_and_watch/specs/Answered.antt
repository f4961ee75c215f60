-- What a follower makes of what a server answers (client-go, tools/cache, Reflector).
use Rattle.std.specs.Prelude.{◌≡◌, ◌⊎◌, ◌&&◌, ◌||◌, ℕ, List, nat_eq, nat_lt, if◌then◌else◌, Bool, true, false, not, Option, Some, None, option_and_then}
use Rattle.spec_api.specs.declared.kinds.Kind.{Kind}
use Rattle.spec_client_go.specs.Reflectors.{Listed, list_of, fed}
use Rattle.spec_client_go.specs.declared.reflectors.Ask.{Ask}
use Rattle.spec_client_go.specs.declared.reflectors.Ask.TheVariants as ask
use Rattle.spec_client_go.specs.declared.reflectors.End.{End}
use Rattle.spec_client_go.specs.declared.reflectors.End.TheVariants as end
use Rattle.reflector.specs.declared.faults.ListFault.{ListFault}
use Rattle.reflector.specs.declared.faults.ListFault.TheVariants as fault
use Rattle.http_client.specs.declared.answer.Answer.{Answer}
use Rattle.http_client.specs.declared.answer.Answer.TheVariants as answer
use Rattle.http_client.specs.declared.more.More.{More}
use Rattle.http_client.specs.declared.more.More.TheVariants as more
use Rattle.api_client.specs.declared.opened.Opened.{Opened}
use Rattle.api_client.specs.declared.opened.Opened.TheVariants as opened
use Rattle.list_and_watch.specs.Followers.{Follower, after_bytes, after_cut, after_expiry, after_refusal}
use Rattle.list_and_watch.specs.Recognized.{is_refusal}
use Rattle.list_and_watch.specs.declared.tries.Piece.{Piece}
use Rattle.list_and_watch.specs.declared.tries.Piece.TheVariants as piece
use Rattle.list_and_watch.specs.declared.tries.Tried.{Tried}
use Rattle.list_and_watch.specs.declared.tries.Tried.TheVariants as tried
use Rattle.list_and_watch.specs.declared.tries.Left.{Left}
use Rattle.list_and_watch.specs.declared.tries.Left.TheVariants as left

-- the body of a reply with the status 200
abbrev pub body_in : Answer → Option (List ℕ)
body_in (answer.Replied r) = if nat_eq r.code 200 then Some r.body.items else None
body_in answer.NotSent = None
body_in answer.Lost = None

-- the list of a kind that was answered
abbrev pub listed_in : Kind → Answer → Option Listed
listed_in k a = option_and_then (list_of k) (body_in a)

-- running out of memory, or that no list was answered
abbrev pub RefusesAnswer : Kind → Answer → ListFault → Type 0
RefusesAnswer k a e = (e ≡ fault.Want) ⊎ ((e ≡ fault.Unreadable) × (listed_in k a ≡ None))

-- a watch begins with nothing of a frame; where what it was to begin after is no longer known, or it is refused, a list is asked for; where it is lost,
-- or the server asks for patience by 429, the same watch
abbrev pub after_opened : Opened → Follower → Follower
after_opened opened.Open f = after_cut f
after_opened opened.Expired f = after_expiry f
after_opened (opened.Refused code wait) f = if nat_eq code 429 then f else after_expiry f
after_opened opened.Lost f = f

-- with these a server that does not know streams of initial events refuses them, or what is asked with them
abbrev pub is_refusal_of_streams : ℕ → Bool
is_refusal_of_streams code = nat_eq code 400 || nat_eq code 422

-- what refuses a stream may last, as where lists are allowed and watches are not. It is for now where the server asks for patience by 429, or says
-- by a code from 500 on that it has failed, but not by 501, that it cannot do what is asked (RFC 9110, Status Codes)
abbrev pub leads_to_list : ℕ → Bool
leads_to_list code = (nat_lt code 500 && not (nat_eq code 429)) || nat_eq code 501

-- where a stream is refused, and not for now alone, a list is asked for until one is taken in; else as a watch
abbrev pub after_stream_opened : Opened → Follower → Follower
after_stream_opened opened.Open f = after_cut f
after_stream_opened opened.Expired f = after_expiry f
after_stream_opened (opened.Refused code wait) f = if leads_to_list code then after_refusal f else after_opened (opened.Refused code wait) f
after_stream_opened opened.Lost f = f

-- a piece that was taken in, by why the watch is over, if it is
abbrev pub piece_of : Option End → Piece
piece_of None = piece.GoesOn
piece_of (Some end.Expired) = piece.Expired
piece_of (Some end.Unreadable) = piece.Unreadable

-- bytes are taken in, and the watch goes on unless they end it; or memory ran out, and the watch is cut
abbrev pub IsPieceTaken : List ℕ → Follower → Follower → Piece → Type 0
IsPieceTaken bytes old new p =
    ((new ≡ after_bytes bytes old) × (p ≡ piece_of (fed old.reflector bytes).ended))
    ⊎ ((new ≡ after_cut old) × (p ≡ piece.Dropped))

-- a watch has given something where what is asked next is not what was asked as it was opened
abbrev pub has_given : Ask → Ask → Bool
has_given ask.List ask.List = false
has_given ask.Stream ask.Stream = false
has_given (ask.Watch from) (ask.Watch reached) = not (nat_eq from reached)
has_given asked next = true

-- a watch that gives no more bytes has ended, or was cut
abbrev pub over : More → Bool → Left
over more.End gave = left.Ended gave
over (more.Bytes n) gave = left.Cut gave
over more.Cut gave = left.Cut gave

-- a watch that ends within a second and gave nothing is a failed try
abbrev pub tried_if : Bool → ℕ → Tried
tried_if gave milliseconds = if gave then tried.Done else (if nat_lt milliseconds 1000 then tried.Failed else tried.Done)

abbrev pub tried_after : Left → ℕ → Tried
tried_after (left.Ended gave) milliseconds = tried_if gave milliseconds
tried_after (left.Cut gave) milliseconds = tried_if gave milliseconds
tried_after left.Expired milliseconds = tried.Failed
tried_after left.Failed milliseconds = tried.Failed
tried_after left.Stopped milliseconds = tried.Stopped

-- whether it may be another server that is asked next: a watch was cut, or what came of it could not be taken in
abbrev pub leaves_doubt : Left → Bool
leaves_doubt (left.Ended gave) = false
leaves_doubt (left.Cut gave) = true
leaves_doubt left.Expired = false
leaves_doubt left.Failed = true
leaves_doubt left.Stopped = false

-- and whether it may be where a watch was asked for: nothing was answered, or what is refused for now
abbrev pub is_left_open : Opened → Bool
is_left_open opened.Open = false
is_left_open opened.Expired = false
is_left_open (opened.Refused code wait) = not (is_refusal code)
is_left_open opened.Lost = true
