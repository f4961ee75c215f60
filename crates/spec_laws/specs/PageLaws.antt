-- What follows from the definitions of pages and of their tokens.
use Rattle.std.specs.Prelude.{◌≡◌, ◌≤◌, ◌<◌, ◌+◌, ◌==◌, ◌↔◌, ℕ, List, [], ◌∷◌, length, flat_map, Option, Some, None, if◌then◌else◌}
use Rattle.spec_api.specs.History.{History, View, Entries, list}
use Rattle.spec_api.specs.Pages.{Place, after_place, last_place, Page, page_of, remaining, AreInPlace}
use Rattle.spec_api.specs.PageTokens.{Token, IsToken, token_of}

-- the list of a view does
abbrev pub ListsAreInPlace : Type 0
ListsAreInPlace = (h : History) (v : View) (r : ℕ) → AreInPlace (list h v r)

-- the pages of a list, from a place on, whatever the limits: each but the first is asked for by the place where the one
-- before it ended, and the last one has no next
abbrev pub ArePages : Entries → Option Place → List Page → Type 0
ArePages ms p [] = ⊥
ArePages ms p (g ∷ []) = ((n : ℕ) × (g ≡ page_of ms n p)) × (g.next ≡ None)
ArePages ms p (g ∷ h ∷ gs) = ((n : ℕ) × (g ≡ page_of ms n p)) × ((q : Place) × (g.next ≡ Some q) × ArePages ms (Some q) (h ∷ gs))

-- the items of one page after those of another
abbrev pub joined : List Page → Entries
joined gs = flat_map (λ g. g.items) gs

-- the pages of a list, whatever their limits, joined, are the list
abbrev pub PagesAreLists : Type 0
PagesAreLists = (h : History) (v : View) (r : ℕ) (gs : List Page) → ArePages (list h v r) None gs → joined gs ≡ list h v r

-- a page has no more than its limit
abbrev pub PagesHaveLimits : Type 0
PagesHaveLimits = (ms : Entries) (n : ℕ) (p : Option Place) → 0 < n → length (page_of ms n p).items ≤ n

-- what a page has, and what remains, is all that comes after its place
abbrev pub RemaindersAddUp : Type 0
RemaindersAddUp = (ms : Entries) (n : ℕ) (p : Option Place) → length (page_of ms n p).items + remaining ms n p ≡ length (after_place p ms)

-- where a page has no next, nothing remains
abbrev pub PagesEnd : Type 0
PagesEnd = (ms : Entries) (n : ℕ) (p : Option Place) → (page_of ms n p).next ≡ None → remaining ms n p ≡ 0

-- the next page begins after the last object of this one, if anything remains
abbrev pub NextsAreLast : Type 0
NextsAreLast =
    (ms : Entries) (n : ℕ) (p : Option Place) → (page_of ms n p).next ≡ (if remaining ms n p == 0 then None else last_place (page_of ms n p).items)

-- a text is at most one token's
abbrev pub TokensAreDistinct : Type 0
TokensAreDistinct = (text : List ℕ) (s t : Token) → IsToken text s → IsToken text t → s ≡ t

-- a text is read as a token just if it is that token's
abbrev pub TokensAreRead : Type 0
TokensAreRead = (text : List ℕ) (t : Token) → IsToken text t ↔ (token_of text ≡ Some t)
