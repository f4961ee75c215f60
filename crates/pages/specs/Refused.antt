-- What is refused as a page token.
use Rattle.std.specs.Prelude.{◌≡◌, ◌⊎◌, ℕ, List}
use Rattle.serde_json.specs.Data.{Data}
use Rattle.spec_api.specs.declared.refusals.Part.TheVariants as part
use Rattle.spec_api.specs.PageTokens as tokens
use Rattle.spec_api.specs.PageTokens.{token_data, IsToken}
use Rattle.object_keys.specs.declared.fault.Fault.{Fault}
use Rattle.object_keys.specs.declared.fault.Fault.TheVariants as fault

-- the text is no token's
abbrev pub IsNoToken : List ℕ → Type 0
IsNoToken text = (t : tokens.Token) → IsToken text t → ⊥

-- the fault is running out of memory, or the page token, and then the text is none
abbrev pub RefusesToken : List ℕ → Fault → Type 0
RefusesToken text e = (e ≡ fault.NoMemory) ⊎ ((e ≡ fault.BadRequest part.Token) × IsNoToken text)

-- if the text is a token's, then the value is what that token says
abbrev pub HoldsToken : List ℕ → Data → Type 0
HoldsToken text d = (t : tokens.Token) → IsToken text t → d ≡ token_data t
