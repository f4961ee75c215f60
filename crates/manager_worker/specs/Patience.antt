-- For how long a server has asked to be left alone (RFC 9110, Retry-After).
use Rattle.std.specs.Prelude.{◌≡◌, ℕ, max}
use Rattle.http_client.specs.Waits.{milliseconds_asked}
use Rattle.http_client.specs.declared.answer.Answer as client
use Rattle.spec_api.specs.ObjectRequests as words

-- a server, and for how many milliseconds it has asked to be left alone, at the longest
pub record Heard (A : Type 0) : Type 0 where
  pub api : A
  pub patience : ℕ

abbrev pub heard : {A : Type 0} → A → ℕ → Heard A
heard api patience = record { api = api; patience = patience }

-- an answer is noted by what it asks, and by nothing else
abbrev pub Hears : {A : Type 0} → (A → words.Request → client.Answer → A → Type 0) → Heard A → words.Request → client.Answer → Heard A → Type 0
Hears answers before q a after = answers before.api q a after.api × (after.patience ≡ max before.patience (milliseconds_asked a))
