-- What is not understood of two words and those after them.
use Rattle.std.proofs.Common.{◌≡◌, ℕ, ◌≤◌, ◌-◌, take, get_or, drop, List, [], ◌∷◌, length, map, string_bytes, String, Global, Option, refl, arith}
use Rattle.std.specs.Option.{option_or}
use Rattle.std.proofs.Math.Seq.{take-length}
use Rattle.kcp_options.specs.declared.setting.Setting.{Setting}
use Rattle.kcp_options.specs.Mistakes.{not_understood, strange_of}

pub strange_pair : (settings : List Setting) (words : List (String Global)) (name value : String Global) (n v : List ℕ) (found : Option (List ℕ)) → 2 ≤ length words
    → name ≡ get_or words 0 name → value ≡ get_or words 1 value → n ≡ string_bytes name → v ≡ string_bytes value
    → found ≡ strange_of settings n v (map string_bytes (take (length words - 2) (drop 2 words)))
    → not_understood settings (map string_bytes words) ≡ option_or found (not_understood settings (map string_bytes (take (length words - 2) (drop 2 words))))
strange_pair settings [] name value n v found h i j k l m = absurd (omega arith)
strange_pair settings (w ∷ []) name value n v found h i j k l m = absurd (omega arith)
strange_pair settings (w ∷ x ∷ rest) name value n v found h i j k l m =
    let first : name ≡ w = i in
    let second : value ≡ x = j in
    let some : length (w ∷ x ∷ rest) - 2 ≡ length rest = omega arith in
    let all : take (length (w ∷ x ∷ rest) - 2) rest ≡ rest = rw some (take-length rest) in
    let is : found ≡ strange_of settings (string_bytes w) (string_bytes x) (map string_bytes rest) = rw (first, second) at (rw (k, l, all) at m) in
    rw (is, all) refl
