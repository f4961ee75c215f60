-- Texts that are cut in two.
use Rattle.std.specs.Prelude.{◌≡◌, ℕ, ◌<◌, List, [], ◌∷◌, Bool, true, false, length, MatchOption, Option}
use Rattle.std.specs.List.{slice_split, list_any, before_first, after_first}
use Rattle.std.specs.Borrow.{Bor}
use Rattle.spec_api.specs.SelectorTexts.{parts}

-- cut at the first byte that passes the test, where one does: so is the first part split off
abbrev pub IsCut : (ℕ → Bool) → List ℕ → Option (Bor (List ℕ) × Bor (List ℕ)) → Type 0
IsCut p t r =
    MatchOption r ((list_any p t ≡ false) × (slice_split p t ≡ t ∷ []))
    (λ x. (slice_split p t ≡ x.0.now ∷ slice_split p x.1.now) × (list_any p t ≡ true) × (x.0.now ≡ before_first p t) × (x.1.now ≡ after_first p t) × (length x.1.now < length t))

-- the first part, and the rest, where there are more parts
abbrev pub IsFirstPart : List ℕ → Option (Bor (List ℕ) × Bor (List ℕ)) → Type 0
IsFirstPart t r = MatchOption r (parts t ≡ t ∷ []) (λ x. (parts t ≡ x.0.now ∷ parts x.1.now) × (length x.1.now < length t))
