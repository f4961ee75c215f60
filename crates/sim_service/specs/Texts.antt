-- Words of a line.
use Rattle.std.specs.Prelude.{ℕ, List, [], ◌∷◌, ◌++◌}

-- each word after a space
abbrev pub after_words : List (List ℕ) → List ℕ
after_words [] = []
after_words (w ∷ ws) = 32 ∷ (w ++ after_words ws)
