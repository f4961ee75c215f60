-- What a run of a row makes of it, by what a run of each may make of it.
use Rattle.std.specs.Prelude.{◌≡◌, ◌≤◌, ◌+◌, ℕ, List, ◌∷◌, [], Option, IfSome}

-- each of a row ran once
abbrev pub RunsEach : {S : Type 0} → (S → S → Type 0) → List S → List S → Type 0
RunsEach step [] [] = Unit {0}
RunsEach step (first ∷ firsts) (last ∷ lasts) = step first last × RunsEach step firsts lasts
RunsEach step [] (last ∷ lasts) = ⊥
RunsEach step (first ∷ firsts) [] = ⊥

-- so many connections were answered over all the row, of which each answered some: what `serves` allows of as many
abbrev pub ServesEach : {S : Type 0} → (ℕ → S → S → Type 0) → ℕ → List S → List S → Type 0
ServesEach serves n [] [] = n ≡ 0
ServesEach serves n (first ∷ firsts) (last ∷ lasts) = (own : ℕ) × (others : ℕ) × (n ≡ own + others) × serves own first last × ServesEach serves others firsts lasts
ServesEach serves n [] (last ∷ lasts) = ⊥
ServesEach serves n (first ∷ firsts) [] = ⊥

-- some were, over all no more than the limit if there is one
abbrev pub ServesEachSome : {S : Type 0} → (ℕ → S → S → Type 0) → Option ℕ → List S → List S → Type 0
ServesEachSome serves limit firsts lasts = (n : ℕ) × IfSome limit (λ most. n ≤ most) × ServesEach serves n firsts lasts
