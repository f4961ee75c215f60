-- What is asked at the seat of a server of the same process, as a relation between the seat before and after.
use Rattle.std.specs.Prelude.{◌≡◌, ◌⊎◌, ℕ, List, Bool, true, false, string_bytes}
use Rattle.http_client.specs.declared.answer.Answer.{Answer}
use Rattle.http_client.specs.declared.answer.Answer.TheVariants.{Replied, NotSent, Lost}
use Rattle.metadata_values.specs.Seconds.{IsTextSince1970}
use Rattle.spec_api.specs.declared.kinds.Kind.{Kind}
use Rattle.spec_api.specs.ObjectRequests.{Request}
use Rattle.spec_api.specs.Refusals.{too_large}
use Rattle.spec_api.specs.Targets.{is_too_long}
use Rattle.spec_api.specs.Verbs.{Outcome, refused}
use Rattle.api_client.specs.declared.asking.Remote.{Remote}
use Rattle.request_encoding.specs.Texts.{can_be_told}
use Rattle.request_encoding.specs.Told as texts
use Rattle.request_encoding.specs.declared.text.RequestText.{RequestText}
use Rattle.desk.specs.Askings.{IsReadable}
use Rattle.desk.specs.Seats.{Calls}
use Rattle.desk.specs.declared.askings.Readable.{Readable}
use Rattle.desk.specs.declared.seats.Seat.{Seat}
use Rattle.kcp_loopback.specs.Told.{Says, Tells}
use Rattle.kcp_loopback.specs.declared.ringing.Ringer.{Ringer}
use Rattle.kcp_loopback.specs.declared.own_server.OwnServer.{OwnServer}

-- the seat of a server, and what connects to it
module _ {R C I O : Type 0} where
  abbrev pub seat_at : OwnServer R C I O → Seat Readable Ringer R
  seat_at s = s.seat

  abbrev pub remote_at : OwnServer R C I O → Remote C I O
  remote_at s = s.remote

-- a request can be told over HTTP, and some text of it has a body that is longer than it may be, or one that is not
abbrev pub HasText : Bool → Request → Type 0
HasText long q = (t : RequestText) × (can_be_told q ≡ true) × texts.Asks q t × (is_too_long (string_bytes t.body) ≡ long)

-- what is answered to a request that the seat is not asked: that nothing was sent, where it cannot be told, or there is no memory or no moment; or a
-- reply that it is too large, where some text of it is; that this is the text that was made of it, this does not say
abbrev pub IsNotAsked : Request → Answer → Type 0
IsNotAsked q (Replied p) = HasText true q × Says (refused too_large) p
IsNotAsked q NotSent = Unit {0}
IsNotAsked q Lost = ⊥

-- of what a bell makes of its ringing nothing is said
abbrev pub Rings : Kind → Ringer → Ringer → Type 0
Rings kind before after = Unit {0}

module _ {R : Type 0} where
  -- the seat is asked a request at some moment since 1970, and the outcome is told
  abbrev pub IsAsked : Seat Readable Ringer R → Request → Answer → Seat Readable Ringer R → Type 0
  IsAsked s q a t = (moment : List ℕ) × (o : Outcome) × IsTextSince1970 moment × Calls IsReadable Rings s q moment o t × Tells o a

  -- it is asked; or nothing was sent, as there is no moment, and the seat is as it was
  abbrev pub IsAskedOrNotSent : Seat Readable Ringer R → Request → Answer → Seat Readable Ringer R → Type 0
  IsAskedOrNotSent s q a t = IsAsked s q a t ⊎ ((a ≡ NotSent) × (t ≡ s))

  -- a request that can be told, by a body that is not too long, is asked; or a request is not asked, and the seat is as it was
  abbrev pub Asks : Seat Readable Ringer R → Request → Answer → Seat Readable Ringer R → Type 0
  Asks s q a t = (HasText false q × IsAsked s q a t) ⊎ (IsNotAsked q a × (t ≡ s))
