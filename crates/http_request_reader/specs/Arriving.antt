-- What is asked by bytes that have come so far.
use Rattle.std.specs.Prelude.{◌≡◌, ◌<◌, ◌+◌, ℕ, List, ◌++◌, drop, length, None, Result, Ok, Err, ⊤}
use Rattle.spec_api.specs.Refusals.{Refusal}
use Rattle.spec_http.specs.Checks.{Opening}
use Rattle.spec_http.specs.Connections.{asked_after, Asks}
use Rattle.object_keys.specs.declared.fault.Fault.TheVariants.{NoMemory}
use Rattle.http_request_head.specs.declared.fault.ReadFault.{ReadFault}
use Rattle.http_request_head.specs.declared.fault.ReadFault.TheVariants as fault
use Rattle.http_request_reader.specs.Receiving.{said}
use Rattle.http_request_reader.specs.declared.arrived.Arrived.{Arrived}
use Rattle.http_request_reader.specs.declared.arrived.Arrived.TheVariants as arrived
use Rattle.http_request_reader.specs.declared.received.Received.TheVariants as received

-- the bytes ask nothing yet, nor do they, whatever follows, before there are so many in all
abbrev pub WaitsFor : List ℕ → ℕ → Type 0
WaitsFor bytes n = (length bytes < n) × ((more : List ℕ) → length (bytes ++ more) < n → Asks (bytes ++ more) None)

-- the bytes that have come so far ask this, or nothing yet
abbrev pub AsksSoFar : List ℕ → Arrived → Type 0
AsksSoFar bytes (arrived.Part n) = WaitsFor bytes n
AsksSoFar bytes (arrived.Whole r) = Asks bytes (said r) × (said r ≡ None → ⊥)

-- running out of memory is no refusal of a request
abbrev pub IsRefusal : Arrived → Type 0
IsRefusal (arrived.Part n) = ⊤
IsRefusal (arrived.Whole r) = r ≡ received.Refused NoMemory → ⊥

-- after a head whose checks say this, and that ends at this place: what is asked with what follows it; or its body is not there, and ends so far on; or
-- out of memory
abbrev pub ArrivesAfter : Result Opening Refusal → ℕ → List ℕ → Result Arrived ReadFault → Type 0
ArrivesAfter c place bytes (Ok (arrived.Whole r)) = (asked_after c (drop place bytes) ≡ said r) × (said r ≡ None → ⊥)
ArrivesAfter c place bytes (Ok (arrived.Part n)) = (o : Opening) × (c ≡ Ok o) × (n ≡ place + o.body_length) × (length bytes < n)
ArrivesAfter c place bytes (Err f) = f ≡ fault.Want
