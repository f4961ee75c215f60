-- Fewer than two words.
use Rattle.std.proofs.Common.{◌≡◌, ℕ, ◌<◌, ◌≤◌, ◌==◌, ◌&&◌, ◌-◌, Bool, take, get_or, drop, List, [], ◌∷◌, length, map, string_bytes, String, Global, None, refl, arith}
use Rattle.std.proofs.Math.Seq.{take-length}
use Rattle.kcp_options.specs.declared.setting.Setting.{Setting}
use Rattle.kcp_options.specs.Options.{value_after, is_option, are_options}

-- no word comes after a name
pub no_value : (name : List ℕ) (words : List (String Global)) → length words < 2 → value_after name (map string_bytes words) ≡ None
no_value name [] h = refl
no_value name (word ∷ []) h = refl
no_value name (word ∷ value ∷ rest) h = absurd (omega arith)

-- no words are options, and one word is not
pub few : (settings : List Setting) (words : List (String Global)) → length words < 2 → are_options settings (map string_bytes words) ≡ (length words == 0)
few settings [] h = refl
few settings (word ∷ []) h = refl
few settings (word ∷ value ∷ rest) h = absurd (omega arith)

-- words whose first two are these are options where those are one, and so are the words after them
pub pair : (settings : List Setting) (words : List (String Global)) (name value : String Global) (n v : List ℕ) (b : Bool) → 2 ≤ length words
    → name ≡ get_or words 0 name → value ≡ get_or words 1 value → n ≡ string_bytes name → v ≡ string_bytes value
    → b ≡ is_option settings n v (map string_bytes (take (length words - 2) (drop 2 words)))
    → are_options settings (map string_bytes words) ≡ (b && are_options settings (map string_bytes (take (length words - 2) (drop 2 words))))
pair settings [] name value n v b h i j k l m = absurd (omega arith)
pair settings (w ∷ []) name value n v b h i j k l m = absurd (omega arith)
pair settings (w ∷ x ∷ rest) name value n v b h i j k l m =
    let first : name ≡ w = i in
    let second : value ≡ x = j in
    let some : length (w ∷ x ∷ rest) - 2 ≡ length rest = omega arith in
    let all : take (length (w ∷ x ∷ rest) - 2) rest ≡ rest = rw some (take-length rest) in
    let is : b ≡ is_option settings (string_bytes w) (string_bytes x) (map string_bytes rest) = rw (first, second) at (rw (k, l, all) at m) in
    rw (is, all) refl
