-- What was done for a connection.
use Rattle.std.specs.Prelude.{◌≡◌, ◌⊎◌, ℕ, List, [], ◌∷◌, ◌++◌, ⊤}
use Rattle.http_watch.specs.Watches.{Look, Opening}

-- a look, and the states of the server before and after it
pub record Glance (S : Type 0) : Type 0 where
  pub before : S
  pub look : Look
  pub after : S

abbrev pub looks_of : {S : Type 0} → List (Glance S) → List Look
looks_of [] = []
looks_of (g ∷ gs) = g.look ∷ looks_of gs

-- nothing; nothing at a server, but it is refused with this text; a request or a list, at this moment, from one state to another, with this text for its
-- reply; or a watch that opened so, from one state to another, and was given these looks
pub data Deed (S : Type 0) : Type 0 where
  nothing : Deed S
  refused : List ℕ → Deed S
  answered : List ℕ → S → S → List ℕ → Deed S
  watched : S → S → Opening → List (Glance S) → Deed S

module _ {S : Type 0} where
  -- with one look more
  abbrev pub with_look : Deed S → Glance S → Deed S
  with_look nothing g = nothing
  with_look (refused text) g = refused text
  with_look (answered moment s t text) g = answered moment s t text
  with_look (watched s t o gs) g = watched s t o (gs ++ g ∷ [])

  -- the same; or it is refused, where nothing was done
  abbrev pub IsKept : Deed S → Deed S → Type 0
  IsKept d e = (e ≡ d) ⊎ ((d ≡ nothing) × ((text : List ℕ) × (e ≡ refused text)))

  -- a request or a list is done at this moment, from one state to the other, or a watch is opened
  abbrev pub IsDone : List ℕ → S → S → Deed S → Type 0
  IsDone moment s t e = ((text : List ℕ) × (e ≡ answered moment s t text)) ⊎ ((o : Opening) × (e ≡ watched s t o []))

  -- a look is given from one state to the other; or none, and the server is as it was
  abbrev pub IsLookedOn : Deed S → S → S → Deed S → Type 0
  IsLookedOn d s t e = ((e ≡ d) × (t ≡ s)) ⊎ ((look : Look) × (e ≡ with_look d (record { before = s; look = look; after = t })))

-- ---- in which order

module _ {S : Type 0} (Later : S → S → Type 0) where
  abbrev pub AreInOrder : S → List (Glance S) → Type 0
  AreInOrder s [] = ⊤
  AreInOrder s (g ∷ gs) = Later s g.before × AreInOrder g.after gs

  -- each look of a watch begins at a state that is later than that which the look before it left
  abbrev pub IsInOrder : Deed S → Type 0
  IsInOrder nothing = ⊤
  IsInOrder (refused text) = ⊤
  IsInOrder (answered moment s t text) = ⊤
  IsInOrder (watched s t o gs) = AreInOrder t gs

  abbrev pub last_after : S → List (Glance S) → S
  last_after s [] = s
  last_after s (g ∷ gs) = last_after g.after gs

  -- this state is later than all that was done
  abbrev pub IsAfter : Deed S → S → Type 0
  IsAfter nothing u = ⊤
  IsAfter (refused text) u = ⊤
  IsAfter (answered moment s t text) u = ⊤
  IsAfter (watched s t o gs) u = Later (last_after t gs) u
