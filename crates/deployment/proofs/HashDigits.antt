-- The first digits of a hash.
use Rattle.std.proofs.Common.{◌≡◌, ℕ, List, [], ◌∷◌, take, refl}
use Rattle.hex.specs.Hex.{encode_lower, encode_with}

pub first_digits : (bytes : List ℕ) → encode_lower (take 5 bytes) ≡ take 10 (encode_lower bytes)
unfolding encode_with
first_digits [] = refl
first_digits (a ∷ []) = refl
first_digits (a ∷ b ∷ []) = refl
first_digits (a ∷ b ∷ c ∷ []) = refl
first_digits (a ∷ b ∷ c ∷ d ∷ []) = refl
first_digits (a ∷ b ∷ c ∷ d ∷ e ∷ bytes) = refl
