-- Bytes that are written as far as they are taken.
use Rattle.std.specs.Prelude.{◌≡◌, ◌≤◌, ◌⊎◌, ℕ, List, [], ◌++◌, length, nat_lt, take, Bool, true, false, Option, Some, None}
use Rattle.std.specs.Io.KnownBytes.{Appends}
use Rattle.api.specs.Responding.{text_of}
use Rattle.api.specs.declared.served.Served.TheVariants as served
use Rattle.http_connection.specs.declared.phase.ConnectionPhase.{ConnectionPhase}
use Rattle.http_connection.specs.declared.phase.ConnectionPhase.TheVariants as phase
use Rattle.http_connection.specs.declared.replying.Replying.{Replying}
use Rattle.http_connection.specs.declared.sending.Sent.{Sent}
use Rattle.http_connection.specs.declared.sending.Sent.TheVariants as sent
use Rattle.http_connection.specs.declared.watching.Watching.{Watching}
use Rattle.http_connection.specs.Watches.{unwritten, IsBounded, IsSameWatch}

-- of the bytes, of which some were written, so many are written in all
abbrev pub IsSent : Option (List ℕ) → Option (List ℕ) → List ℕ → ℕ → ℕ → Type 0
IsSent before after bytes taken n = (put : List ℕ) × Appends before after put × (take taken bytes ++ put ≡ take n bytes)

-- some more of the bytes was written; or the writer has stopped
abbrev pub Sends : Bool → Option (List ℕ) → Option (List ℕ) → List ℕ → ℕ → Sent → Type 0
Sends no_room before after bytes taken (sent.To n) = IsSent before after bytes taken n
Sends no_room before after bytes taken sent.Failed = (no_room ≡ true) × ((n : ℕ) × IsSent before after bytes taken n)

-- where a connection stands once so many bytes of its reply are written: it is closed where these are all, or the writer has stopped
abbrev pub RepliedTo : Bool → Replying → ℕ → ConnectionPhase → Type 0
RepliedTo no_room r n (phase.Replying q) = (text_of q.text ≡ text_of r.text) × (q.taken ≡ n) × (q.served ≡ r.served)
RepliedTo no_room r n (phase.Closing s) = (s ≡ r.served) × ((no_room ≡ true) ⊎ (length (text_of r.text) ≤ n))
RepliedTo no_room r n (phase.Reading a) = ⊥
RepliedTo no_room r n (phase.Asked a) = ⊥
RepliedTo no_room r n phase.Answering = ⊥
RepliedTo no_room r n (phase.Listing l) = ⊥
RepliedTo no_room r n (phase.Watching w) = ⊥

abbrev pub RepliesOn : Bool → Option (List ℕ) → Option (List ℕ) → Replying → ConnectionPhase → Type 0
RepliesOn no_room before after r result = (n : ℕ) × IsSent before after (text_of r.text) r.taken n × RepliedTo no_room r n result

-- ---- watches

-- some of what is to be written was, and the rest is left
abbrev pub IsBegun : Option (List ℕ) → Option (List ℕ) → Watching → Type 0
IsBegun before after w = (put : List ℕ) × (left : List ℕ) × Appends before after put × (put ++ left ≡ unwritten w)

-- once all is made with which it opened, that stays so
abbrev pub IsMadeStill : Watching → Watching → Type 0
IsMadeStill w u = nat_lt 0 (length w.rest) ≡ false → nat_lt 0 (length u.rest) ≡ false

-- a watch that is to be written the same
abbrev pub IsAsFar : Watching → Watching → Type 0
IsAsFar w u = IsSameWatch w u × (u.at ≡ w.at) × (unwritten u ≡ unwritten w) × (IsBounded w → IsBounded u) × IsMadeStill w u

-- one that is to be written the rest, after some was
pub record IsWritten (before after : Option (List ℕ)) (w u : Watching) : Type 0 where
  pub put : List ℕ
  pub appends : Appends before after put
  pub rest : put ++ unwritten u ≡ unwritten w
  pub same : IsSameWatch w u
  pub at : u.at ≡ w.at
  pub bounded : IsBounded w → IsBounded u
  pub made : IsMadeStill w u

abbrev pub WatchSends : Bool → Option (List ℕ) → Option (List ℕ) → Watching → Option Watching → Type 0
WatchSends no_room before after w (Some u) = IsWritten before after w u
WatchSends no_room before after w None = (no_room ≡ true) × IsBegun before after w

-- what is to be written after what is, is made; that may want memory, or more room, where something it opened with is still to be made
abbrev pub Refills : Watching → Option Watching → Type 0
Refills w (Some u) = IsAsFar w u
Refills w None = nat_lt 0 (length w.rest) ≡ true

-- a watch that is over is closed once all of it is written
abbrev pub Rests : Watching → ConnectionPhase → Type 0
Rests w (phase.Watching u) = IsAsFar w u
Rests w (phase.Closing s) = (s ≡ served.Asked) × (w.at ≡ None) × (unwritten w ≡ [])
Rests w (phase.Reading a) = ⊥
Rests w (phase.Asked a) = ⊥
Rests w phase.Answering = ⊥
Rests w (phase.Replying r) = ⊥
Rests w (phase.Listing l) = ⊥

-- why a watch is closed: the writer has stopped, or it is over, and all of it is written, or something it opened with was still to be made
abbrev pub WatchCloses : Bool → Option (List ℕ) → Option (List ℕ) → Watching → Type 0
WatchCloses no_room before after w =
    ((no_room ≡ true) × IsBegun before after w) ⊎ ((w.at ≡ None) × Appends before after (unwritten w)) ⊎ ((nat_lt 0 (length w.rest) ≡ true) × IsBegun before after w)

-- where a connection stands once some more of its watch is written
abbrev pub WatchesOn : Bool → Option (List ℕ) → Option (List ℕ) → Watching → ConnectionPhase → Type 0
WatchesOn no_room before after w (phase.Watching u) = IsWritten before after w u
WatchesOn no_room before after w (phase.Closing s) = (s ≡ served.Asked) × WatchCloses no_room before after w
WatchesOn no_room before after w (phase.Reading a) = ⊥
WatchesOn no_room before after w (phase.Asked a) = ⊥
WatchesOn no_room before after w phase.Answering = ⊥
WatchesOn no_room before after w (phase.Replying r) = ⊥
WatchesOn no_room before after w (phase.Listing l) = ⊥
