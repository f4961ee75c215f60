-- The names that the server makes of `generateName` (Kubernetes API Concepts, Generated values).
use Rattle.std.specs.Prelude.{ℕ, zero, suc, ◌+◌, ◌/◌, ◌%◌, List, [], ◌∷◌, ◌++◌, Bool, take, slice_get, unwrap_or, find, Option, Some, None, codes}
use Rattle.std.specs.Str.Lossy.{utf8_lossy}

-- the letters and digits of what is added, which spell no words (Kubernetes API machinery, SafeEncodeString)
abbrev pub alphabet : List ℕ
alphabet = codes "bcdfghjklmnpqrstvwxz2456789"

-- the last n digits of a number in base 27
abbrev pub suffix : ℕ → ℕ → List ℕ
suffix zero x = []
suffix (suc n) x = suffix n (x / 27) ++ unwrap_or (slice_get alphabet (x % 27)) 0 ∷ []

-- what is given, cut to 58 bytes, with five digits of a number behind it
abbrev pub made : List ℕ → ℕ → List ℕ
made given n = utf8_lossy (take 58 given) ++ suffix 5 n

-- the names made with so many numbers, from this one on
abbrev pub tried : List ℕ → ℕ → ℕ → List (List ℕ)
tried given zero n = []
tried given (suc tries) n = made given n ∷ tried given tries (n + 1)

-- of eight names, the first that is free; where none is, the first of them
abbrev pub made_name : (List ℕ → Bool) → List ℕ → ℕ → List ℕ
made_name is_free given revision = unwrap_or (find is_free (tried given 8 revision)) (made given revision)

-- the name that is given, or one that is made, or none
abbrev pub name_from : (List ℕ → Bool) → Option (List ℕ) → Option (List ℕ) → ℕ → List ℕ
name_from is_free (Some name) generate_name revision = name
name_from is_free None (Some given) revision = made_name is_free given revision
name_from is_free None None revision = []
