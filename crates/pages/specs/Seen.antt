-- Tokens and lists, as clients see them.
use Rattle.std.specs.Prelude.{string_bytes, Option, option_map}
use denote.Ref.{Bor}
use Rattle.spec_api.specs.Pages.{Place}
use Rattle.spec_api.specs.PageTokens as tokens
use Rattle.spec_api.specs.PageTokens.{token_place}
use Rattle.pages.specs.declared.tokens.Token.{Token}

-- the token, by the bytes of its texts
abbrev pub token_of : Token → tokens.Token
token_of t = record { name = string_bytes t.name; namespace = string_bytes t.namespace; revision = t.revision }

-- the place after which a page is asked for
abbrev pub asked_place : Option (Bor Token) → Option Place
asked_place o = option_map (λ (t : Bor Token). token_place (token_of t.now)) o
