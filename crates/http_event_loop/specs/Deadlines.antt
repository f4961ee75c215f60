-- How many seconds a connection may stand where it does.
use Rattle.std.specs.Prelude.{◌∷◌, [], ℕ, List, length, Option, Some, None, nat_lt, if◌then◌else◌}
use Rattle.http_connection.specs.Watches.{unwritten}
use Rattle.http_connection.specs.declared.arriving.Arriving.{Arriving}
use Rattle.http_connection.specs.declared.arriving.Awaited.{Awaited}
use Rattle.http_connection.specs.declared.arriving.Awaited.TheVariants as awaited
use Rattle.http_connection.specs.declared.phase.ConnectionPhase.{ConnectionPhase}
use Rattle.http_connection.specs.declared.phase.ConnectionPhase.TheVariants as phase

-- a head has ten seconds from when the peer connected, and a request thirty
abbrev pub awaited_deadline : Awaited → List ℕ → ℕ
awaited_deadline awaited.HeadEnd bytes = 10
awaited_deadline (awaited.Bytes n) [] = 10
awaited_deadline (awaited.Bytes n) (b ∷ bytes) = 30

abbrev pub reading_deadline : Arriving → ℕ
reading_deadline a = awaited_deadline a.awaited a.bytes.items

-- a peer that takes nothing of what is to be written has thirty, and one that is to see its connection end four
abbrev pub deadline : ConnectionPhase → Option ℕ
deadline (phase.Reading a) = Some (reading_deadline a)
deadline (phase.Asked a) = None
deadline phase.Answering = None
deadline (phase.Replying r) = Some 30
deadline (phase.Listing l) = Some 30
deadline (phase.Watching w) = if nat_lt 0 (length (unwritten w)) then Some 30 else None
deadline (phase.Closing s) = Some 4
