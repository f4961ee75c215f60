-- Bytes and their whole lines.
use Rattle.std.specs.Prelude.{◌≡◌, ◌≢◌, ℕ, List, [], ◌∷◌, ◌++◌, flat_map}
use Rattle.std.specs.List.{AllByRecursion}

-- no byte of it is a newline
abbrev pub IsPartial : List ℕ → Type 0
IsPartial bytes = AllByRecursion (λ x. x ≢ 10) bytes

-- these lines, each with its newline
abbrev pub text_of : List (List ℕ) → List ℕ
text_of ls = flat_map (λ l. l ++ 10 ∷ []) ls

-- the bytes are these whole lines, and then less than a whole one
pub record Splits (bytes : List ℕ) (ls : List (List ℕ)) (left : List ℕ) : Type 0 where
  pub whole : bytes ≡ text_of ls ++ left
  pub each : AllByRecursion IsPartial ls
  pub partial : IsPartial left
