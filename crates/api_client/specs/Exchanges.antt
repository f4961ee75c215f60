-- What is asked of a server for the copy of a kind, and what comes.
use Rattle.std.specs.Prelude.{ℕ, List, length, take, nat_le, if◌then◌else◌, Option, Some, None}
use Rattle.spec_api.specs.declared.kinds.Kind.{Kind}
use Rattle.http_client.specs.Waits.{milliseconds_by}
use Rattle.http_client.specs.declared.answer.Answer.{Answer}
use Rattle.http_client.specs.declared.more.More.{More}
use Rattle.http_client.specs.declared.more.More.TheVariants as more
use Rattle.api_client.specs.declared.opened.Opened.{Opened}
use Rattle.api_client.specs.declared.opened.Opened.TheVariants as opened

-- a list of a kind is asked for, and this became of it; the first object of the list of a kind, as it was at a revision; a watch of a kind, after a
-- revision; a stream of a kind, which begins with the present objects; the watch that is open is read, and this comes next, at the front of this
-- buffer; and the server is told that what came was understood, or that these bytes were not
pub data Exchange : Type 0 where
  list : Kind → Answer → Exchange
  first : Kind → ℕ → Answer → Exchange
  watch : Kind → ℕ → Opened → Exchange
  stream : Kind → Opened → Exchange
  read : More → List ℕ → Exchange
  understood : Exchange
  not_understood : List ℕ → Exchange

-- the bytes that came, at the front of a buffer
abbrev pub piece_in : More → List ℕ → Option (List ℕ)
piece_in (more.Bytes n) buffer = if nat_le n (length buffer) then Some (take n buffer) else None
piece_in more.End buffer = None
piece_in more.Cut buffer = None

-- for how many milliseconds a server asks to be left alone where a watch was asked for
abbrev pub milliseconds_at : Opened → ℕ
milliseconds_at opened.Open = 0
milliseconds_at opened.Expired = 0
milliseconds_at (opened.Refused code wait) = milliseconds_by code wait
milliseconds_at opened.Lost = 0
