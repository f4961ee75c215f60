-- Worked facts of pages, computed from the definitions.
use Rattle.std.specs.Prelude.{◌≡◌, ℕ, List, [], ◌∷◌, map, Option, Some, None, codes}
use Rattle.serde_json.specs.Data.{Data, null}
use Rattle.spec_api.specs.declared.kinds.Kind.TheVariants.{ConfigMap}
use Rattle.spec_api.specs.Keys.{Key}
use Rattle.spec_api.specs.History.{Entries}
use Rattle.spec_api.specs.Pages.{Place, Page, page_of, remaining}
use Rattle.spec_api.specs.PageTokens.{token_text}

abbrev entry : List ℕ → Key × Data
entry name = (record { kind = ConfigMap; namespace = codes "default"; name = name }, null)

abbrev five : Entries
five = map entry (codes "a" ∷ codes "b" ∷ codes "c" ∷ codes "d" ∷ codes "e" ∷ [])

abbrev at : List ℕ → Option Place
at name = Some (record { namespace = codes "default"; name = name })

-- the names of a page's items
abbrev names : Page → List (List ℕ)
names g = map (λ m. m.0.name) g.items

-- five ConfigMaps by two: two pages of two, and one of one
abbrev pub FiveByTwo : Type 0
FiveByTwo =
    (names (page_of five 2 None) ≡ codes "a" ∷ codes "b" ∷ [])
    × ((page_of five 2 None).next ≡ at (codes "b"))
    × (remaining five 2 None ≡ 3)
    × (names (page_of five 2 (at (codes "b"))) ≡ codes "c" ∷ codes "d" ∷ [])
    × ((page_of five 2 (at (codes "b"))).next ≡ at (codes "d"))
    × (remaining five 2 (at (codes "b")) ≡ 1)
    × (names (page_of five 2 (at (codes "d"))) ≡ codes "e" ∷ [])
    × ((page_of five 2 (at (codes "d"))).next ≡ None)
    × (remaining five 2 (at (codes "d")) ≡ 0)

-- without a limit all come at once; and after a name that is no longer there, those that follow it
abbrev pub PlacesNeedNoObject : Type 0
PlacesNeedNoObject = (names (page_of five 0 None) ≡ map (λ m. m.0.name) five) × (names (page_of five 0 (at (codes "cc"))) ≡ codes "d" ∷ codes "e" ∷ [])

-- the token after the second of them, at revision 6
abbrev pub TokensAreWritten : Type 0
TokensAreWritten =
    token_text (record { name = codes "b"; namespace = codes "default"; revision = 6 }) ≡ codes "eyJuYW1lIjoiYiIsIm5hbWVzcGFjZSI6ImRlZmF1bHQiLCJydiI6IjYifQ"
