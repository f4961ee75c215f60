-- Texts of page tokens, and those that are none, as the definitions read them.
use Rattle.std.proofs.Common.{◌≡◌, ℕ, List, Option, Some, None, Err, inl, inr, refl, sym, ap, ◌∙◌}
use Rattle.spec_api.specs.declared.refusals.Part.{Part}
use Rattle.spec_api.specs.declared.refusals.Part.TheVariants as part
use Rattle.spec_api.specs.ListQueries.{going_on}
use Rattle.spec_api.specs.PageTokens.{Token, token_of}
use Rattle.spec_api.proofs.TokensRead.{read_is_token}
use Rattle.object_keys.specs.declared.fault.Fault.{Fault}
use Rattle.object_keys.specs.declared.fault.Fault.TheVariants as fault
use Rattle.pages.specs.Refused.{IsNoToken, RefusesToken}

by : (text : List ℕ) (o : Option Token) → token_of text ≡ o → IsNoToken text → o ≡ None
by text None e other = refl
by text (Some t) e other = absurd (other t (read_is_token text t e))

none_read : (text : List ℕ) → IsNoToken text → token_of text ≡ None
none_read text other = by text (token_of text) refl other

-- what is refused as a token is none to go on from
pub goes_nowhere : (text : List ℕ) (limit : ℕ) (e : Fault) (p : Part) → e ≡ fault.BadRequest p → RefusesToken text e → going_on limit (token_of text) ≡ Err part.Token
goes_nowhere text limit e p is (inl h) = let both = sym is ∙ h in cc both
goes_nowhere text limit e p is (inr h) = ap (going_on limit) (none_read text h.1)
