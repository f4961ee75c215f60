-- What heads ask, as connections have it.
use Rattle.std.specs.Prelude.{◌≡◌, ◌⊎◌, ℕ, Option, Result, Ok, Err}
use Rattle.spec_api.specs.Refusals.{Refusal}
use Rattle.spec_http.specs.Heads.{Head}
use Rattle.spec_http.specs.Checks as words
use Rattle.spec_http.specs.Checks.{body_checked}
use Rattle.object_keys.specs.Faults.{refusal_of}
use Rattle.object_keys.specs.declared.fault.Fault.{Fault}
use Rattle.object_keys.specs.declared.fault.Fault.TheVariants as fault
use Rattle.request_parts.specs.Queried.{query_seen}
use Rattle.request_parts.specs.RoutesSeen.{route_seen}
use Rattle.http_request_reader.specs.declared.opening.CheckedHead.{CheckedHead}

-- what a head asks, in the words of connections
abbrev pub opening_seen : CheckedHead → words.Opening
opening_seen o = record { method = o.method; route = route_seen o.target; query = query_seen o.query; body_length = o.body_length }

-- the result is what is asked, or this refusal, or out of memory
abbrev pub Opens : Result words.Opening Refusal → Result CheckedHead Fault → Type 0
Opens wanted (Ok o) = wanted ≡ Ok (opening_seen o)
Opens wanted (Err e) = (e ≡ fault.NoMemory) ⊎ (wanted ≡ Err (refusal_of e))

-- the result is the length of a body that passes its checks, or this refusal
abbrev pub ChecksBody : Head → Option ℕ → words.Opening → Result ℕ Fault → Type 0
ChecksBody h stated o (Ok n) = (body_checked h stated o ≡ Ok o) × (o.body_length ≡ n)
ChecksBody h stated o (Err e) = body_checked h stated o ≡ Err (refusal_of e)
