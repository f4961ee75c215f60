-- The token that a value's members say.
use Rattle.std.specs.Prelude.{ℕ, List, codes, Option, option_map, option_and_then}
use Rattle.serde_json.specs.Data.{Data}
use Rattle.serde_json.specs.Find.{get, as_str}
use Rattle.spec_api.specs.PageTokens.{Token}
use Rattle.spec_api.specs.Revisions.{revision_of}
use Rattle.pages.specs.declared.reading.Members.{Members}

-- a member that is a text
abbrev pub text_at : List ℕ → Data → Option (List ℕ)
text_at name d = option_and_then as_str (get name d)

abbrev pub token_in : Data → Option Token
token_in d =
    option_and_then (λ name. option_and_then (λ namespace. option_map (λ r. record { name = name; namespace = namespace; revision = r }) (option_and_then revision_of (text_at (codes "rv") d))) (text_at (codes "namespace") d)) (text_at (codes "name") d)

-- the token, its texts lent
abbrev pub lent_token : Members → Token
lent_token m = record { name = m.name.now; namespace = m.namespace.now; revision = m.revision }
