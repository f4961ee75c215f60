use Rattle.std.proofs.Common.{refl, inr, sym, ap, ◌∙◌, string_bytes, rules, ◌≡◌}
use Rattle.serde_json.specs.View.{view}
use Rattle.spec_api.specs.PageTokens.{token_text}
use Rattle.pages.specs.Read.{lent_token}
use Rattle.pages.proofs.TokenReading.{no_members, other_text}
use Rattle.pages.proofs.tokens.Token.read.Goals as goal

pub returns-in-None-clause-refused : goal.returns-in-None-clause-refused
returns-in-None-clause-refused c = inr (refl, no_members c.args.text.now (view c.in_ok-value.value) c.in_ok-value.ensures.read (sym c.in-None.ensures))

pub returns-clause-refused : goal.returns-clause-refused
returns-clause-refused c =
    inr (
      refl,
      other_text
          c.args.text.now
          (string_bytes c.in_ok-again.again)
          (view c.in_ok-value.value)
          (lent_token c.in-Some.members)
          c.in_ok-value.ensures.read
          (sym c.in-Some.ensures)
          (c.in_ok-again.ensures ∙ ap token_text c.in_ok-token-in-Some.ensures)
          (λ h. let same : c.as_str.result.now ≡ c.args.text.now = c.as_str.ensures.value ∙ h in search rules),
    )
