-- How long a text is in quotes.
use Rattle.std.proofs.Common.{◌≤◌, ◌+◌, ◌*◌, ◌/◌, ◌%◌, nat_lt, ℕ, List, [], ◌∷◌, length, Bool, true, false, cond, arith, length-append}
use Rattle.std.specs.Char.{digit_char}
use Rattle.json.specs.Print.{quoted, escape, escape_byte, escape_letter}

length-choice : (a b : Bool) (xs ys zs : List ℕ) → length xs ≤ 6 → length ys ≤ 6 → length zs ≤ 6 → length (cond a xs (cond b ys zs)) ≤ 6
length-choice true b xs ys zs h k l = h
length-choice false true xs ys zs h k l = k
length-choice false false xs ys zs h k l = l

length-escape_byte : (x : ℕ) → length (escape_byte x) ≤ 6
unfolding escape_byte
length-escape_byte x =
    length-choice (nat_lt 0 (escape_letter x)) (nat_lt x 32) (92 ∷ escape_letter x ∷ []) (92 ∷ 117 ∷ 48 ∷ 48 ∷ digit_char (x / 16) ∷ digit_char (x % 16) ∷ []) (x ∷ []) (omega arith) (omega arith) (omega arith)

pub length-escape : (s : List ℕ) → length (escape s) ≤ 6 * length s
length-escape [] = omega arith
length-escape (x ∷ s) = omega (arith, length-append (escape_byte x) (escape s), length-escape_byte x, length-escape s)

pub length-quoted : (s : List ℕ) → length (quoted s) ≤ 6 * length s + 2
length-quoted s = omega (arith, length-append (escape s) (34 ∷ []), length-escape s)
