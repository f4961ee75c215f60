-- What is found by a live read (RFC 9110, Status Codes).
use Rattle.std.specs.Prelude.{◌≡◌, ℕ, List, ◌&&◌, Bool, true, false, not, Result, Some, Ok, Err, option_map, unwrap_or}
use Rattle.std.specs.Str.{IsUtf8}
use Rattle.http_client.specs.declared.answer.Answer as client
use Rattle.http_client.specs.declared.answer.Answer.TheVariants as outcome
use Rattle.spec_api.specs.Keys.{Key, is_namespace, is_subdomain}
use Rattle.spec_api.specs.Metadata.{differs, name, namespace}
use Rattle.spec_api.specs.Reading.{reading}
use Rattle.serde_json.specs.Data.{Data}
use Rattle.serde_json.specs.Read.{read}
use Rattle.live_reads.specs.declared.found.FoundObject.{FoundObject}
use Rattle.live_reads.specs.declared.found.FoundObject.TheVariants as found

-- whether an object can have this key
abbrev pub can_be : Key → Bool
can_be k = is_namespace k.namespace && is_subdomain k.name

-- whether an object has the namespace and the name of a key
abbrev pub has_key : Key → Data → Bool
has_key k d = not (differs (Some k.namespace) (namespace d)) && not (differs (Some k.name) (name d))

-- whether what was read is an object with this key
abbrev pub is_read_as : {E : Type 0} → Key → Result Data E → Bool
is_read_as k (Ok d) = has_key k d
is_read_as k (Err e) = false

-- whether a body is the object of a key
abbrev pub is_object_of : Key → List ℕ → Bool
is_object_of k body = unwrap_or (option_map (λ d. is_read_as k (reading k.kind d)) (read body)) false

-- The object that is there is the one of the body, and has the key that was asked for; that none is there only the server says. It is refused
-- where the reply says neither: with another code, or with a body that is not the object of that key, or no text.
abbrev pub Finds : Key → ℕ → List ℕ → FoundObject → Type 0
Finds k code body (found.Present o) = (code ≡ 200) × (option_map (reading k.kind) (read body) ≡ Some (Ok o.value)) × (has_key k o.value ≡ true)
Finds k code body found.Absent = code ≡ 404
Finds k code body found.Refused = ¬ (code ≡ 404) × (code ≡ 200 → IsUtf8 body → is_object_of k body ≡ false)
Finds k code body found.Unanswered = ⊥

-- it is unanswered just where the request was not sent, or no whole reply came
abbrev pub FindsOf : Key → client.Answer → FoundObject → Type 0
FindsOf k (outcome.Replied r) f = Finds k r.code r.body.items f
FindsOf k outcome.NotSent f = f ≡ found.Unanswered
FindsOf k outcome.Lost f = f ≡ found.Unanswered
