-- What is written of chunks is a body, and an input begins with one body only.
use Rattle.std.proofs.Common.{◌≡◌, ℕ, zero, suc, Bool, true, false, cond, ◌<◌, ◌≤◌, ◌+◌, ◌/◌, ◌%◌, ◌^◌, nat_lt, ◌==◌, List, [], ◌∷◌, ◌++◌, length, drop, None, refl, sym, ap, subst, ◌∙◌, append_assoc, append-nil, length-append, arith}
use Rattle.std.proofs.lemmas.Bool.Decides.{nat_tests}
use Rattle.std.proofs.Math.Nat.{pow-suc}
use Rattle.std.proofs.lemmas.List.{append_cancel_left}
use Rattle.std.proofs.lemmas.List.Elements.{All-nil, All-cons}
use Rattle.std.specs.Fmt.{digits, digits_onto, digit_glyph}
use Rattle.std.specs.Char.{is_ascii_hexdigit}
use Rattle.std.specs.Str.Parse.{digits_value}
use Rattle.std.proofs.lemmas.Fmt.{digits_is_IsNumeral}
use Rattle.httparse.specs.Grammar.{AllPass, ChunkLine, IsChunkLine, print_chunk_line, chunk_size, is_ows}
use Rattle.httparse.proofs.ChunkLemmas.{chunk_line_unique}
use Rattle.chunked.specs.Bodies.{IsBodyWithin, crlf, chunks_text, last_chunk}
use Rattle.chunked.specs.Reading.{longest_line}
use Rattle.chunked.specs.Laws.{AreChunks}
use Rattle.chunked.proofs.Passing.{longer_body, last_is_body}

-- digits in hexadecimal
glyph_is_hex : (d : ℕ) → d < 16 → is_ascii_hexdigit (digit_glyph false d) ≡ true
glyph_is_hex d small = by (nat_lt d 10) refl
  where
    by : (t : Bool) → nat_lt d 10 ≡ t → is_ascii_hexdigit (cond t (48 + d) (87 + d)) ≡ true
    by true e = grind (arith, nat_tests)
    by false e = grind (arith, nat_tests)

onto_is_hex : (k n : ℕ) (acc : List ℕ) → AllPass is_ascii_hexdigit acc → AllPass is_ascii_hexdigit (digits_onto k 16 false n acc)
onto_is_hex zero n acc h = h
onto_is_hex (suc k) n acc h =
    let more = All-cons (λ b. is_ascii_hexdigit b ≡ true) (digit_glyph false (n % 16)) acc (glyph_is_hex (n % 16) (omega arith)) h in
    either (n / 16 == 0) (digit_glyph false (n % 16) ∷ acc) (digits_onto k 16 false (n / 16) (digit_glyph false (n % 16) ∷ acc)) more (onto_is_hex k (n / 16) (digit_glyph false (n % 16) ∷ acc) more)
  where
    either : (b : Bool) (xs ys : List ℕ) → AllPass is_ascii_hexdigit xs → AllPass is_ascii_hexdigit ys → AllPass is_ascii_hexdigit (cond b xs ys)
    either true xs ys p q = p
    either false xs ys p q = q

digits_onto_nil : (n : ℕ) → digits_onto 64 16 false n [] ≡ digits 16 false n
unfolding digits
digits_onto_nil n = refl

-- a number below a power of 16 has no more digits than that
positive : (j n : ℕ) → (n ≡ 0 → ⊥) → n < 16 ^ j → 0 < j
positive zero n other low = absurd (other (omega (arith, low)))
positive (suc i) n other low = omega arith

onto_is_short : (k j n : ℕ) (acc : List ℕ) → 0 < j → n < 16 ^ j → length (digits_onto k 16 false n acc) ≤ j + length acc
onto_is_short zero j n acc some low = omega arith
onto_is_short (suc k) zero n acc some low = absurd (omega (arith, some))
onto_is_short (suc k) (suc j) n acc some low =
    by (n / 16 == 0) refl (onto_is_short k j (n / 16) (digit_glyph false (n % 16) ∷ acc))
  where
    by : (b : Bool) → (n / 16 == 0) ≡ b
        → (0 < j → n / 16 < 16 ^ j → length (digits_onto k 16 false (n / 16) (digit_glyph false (n % 16) ∷ acc)) ≤ j + length (digit_glyph false (n % 16) ∷ acc))
        → length (cond b (digit_glyph false (n % 16) ∷ acc) (digits_onto k 16 false (n / 16) (digit_glyph false (n % 16) ∷ acc))) ≤ suc j + length acc
    by true e on = omega arith
    by false e on =
        let other : n / 16 ≡ 0 → ⊥ = grind (arith, nat_tests) in
        let rest : n / 16 < 16 ^ j = omega (arith, low, pow-suc 16 j) in
        let less = on (positive j (n / 16) other rest) rest in
        omega (arith, less)

-- the line that is written before a chunk
abbrev size_line : ℕ → ChunkLine
size_line n = record { digits = digits 16 false n; pad = []; extension = None }

size_line_is : (n : ℕ) → print_chunk_line (size_line n) ≡ digits 16 false n ++ crlf
unfolding print_chunk_line
size_line_is n = ap (λ t. t ++ crlf) (append-nil (digits 16 false n ++ []) ∙ append-nil (digits 16 false n))

module _ (n : ℕ) (low : n < 2 ^ 64) where
  numeral : (0 < length (digits 16 false n)) × (digits_value 16 (digits 16 false n) ≡ n)
  numeral = let d = digits_is_IsNumeral 16 false (omega arith) (omega arith) n (omega (arith, low)) in (d.0.0, d.1)

  few : length (digits 16 false n) ≤ 16
  few = subst (λ ds. length ds ≤ 16) (digits_onto_nil n) (onto_is_short 64 16 n [] (omega arith) (omega (arith, low)))

  hex : AllPass is_ascii_hexdigit (digits 16 false n)
  hex = subst (AllPass is_ascii_hexdigit) (digits_onto_nil n) (onto_is_hex 64 n [] (All-nil (λ b. is_ascii_hexdigit b ≡ true)))

  size_line_ok : IsChunkLine (size_line n)
  size_line_ok = record { digits = (numeral.0, few, hex); pad = All-nil (λ b. is_ows b ≡ true); extension = tt }

  size_line_short : length (print_chunk_line (size_line n)) ≤ longest_line
  size_line_short = omega (arith, few, ap length (size_line_is n), length-append (digits 16 false n) crlf)

regroup : (a b c t l : List ℕ) → ((a ++ (b ++ c)) ++ t) ++ l ≡ a ++ (b ++ (c ++ (t ++ l)))
regroup a b c t l = simp append_assoc

-- what is written is a body
pub written : (chunks : List (List ℕ)) (rest : List ℕ) → AreChunks chunks → IsBodyWithin longest_line chunks (chunks_text chunks ++ (last_chunk ++ rest)) rest
written [] rest h = longer_body 3 longest_line (omega arith) [] (last_chunk ++ rest) rest (last_is_body rest)
written (bytes ∷ chunks) rest h =
    let n = length bytes in
    let tail = chunks_text chunks ++ (last_chunk ++ rest) in
    let low : n < 2 ^ 64 = h.0.1 in (
      size_line n,
      tail,
      (
        size_line_ok n low,
        regroup (digits 16 false n ++ crlf) bytes crlf (chunks_text chunks) (last_chunk ++ rest) ∙ ap (λ t. t ++ (bytes ++ (crlf ++ tail))) (sym (size_line_is n)),
      ),
      (numeral n low).1,
      size_line_short n low,
      h.0.0,
      written chunks rest h.1,
    )

-- two texts with the same length at the front
fronts : (xs ys more rest : List ℕ) → length xs ≡ length ys → xs ++ more ≡ ys ++ rest → (xs ≡ ys) × (more ≡ rest)
fronts [] [] more rest len e = (refl, e)
fronts [] (y ∷ ys) more rest len e = absurd (omega (arith, len))
fronts (x ∷ xs) [] more rest len e = absurd (omega (arith, len))
fronts (x ∷ xs) (y ∷ ys) more rest len e =
    let on = fronts xs ys more rest (omega (arith, len)) (ap (drop 1) e) in
    (cc (on.0, e), on.1)

-- an input begins with one body only
pub one_body : (m n : ℕ) (chunks others : List (List ℕ)) (input rest left : List ℕ) → IsBodyWithin m chunks input rest → IsBodyWithin n others input left → (chunks ≡ others) × (rest ≡ left)
one_body m n [] [] input rest left (l, reads, none, short) (k, reads', none', short') =
    (refl, append_cancel_left crlf rest left (chunk_line_unique input l k (crlf ++ rest) (crlf ++ left) reads reads').1)
one_body m n [] (ys ∷ others) input rest left (l, reads, none, short) (k, tail', reads', size', short', pos', body') =
    absurd (omega (arith, none, pos', size', ap chunk_size (chunk_line_unique input l k (crlf ++ rest) (ys ++ (crlf ++ tail')) reads reads').0))
one_body m n (xs ∷ chunks) [] input rest left (l, tail, reads, size, short, pos, body) (k, reads', none', short') =
    absurd (omega (arith, none', pos, size, ap chunk_size (chunk_line_unique input l k (xs ++ (crlf ++ tail)) (crlf ++ left) reads reads').0))
one_body m n (xs ∷ chunks) (ys ∷ others) input rest left (l, tail, reads, size, short, pos, body) (k, tail', reads', size', short', pos', body') =
    let same = chunk_line_unique input l k (xs ++ (crlf ++ tail)) (ys ++ (crlf ++ tail')) reads reads' in
    let front = fronts xs ys (crlf ++ tail) (crlf ++ tail') (sym size ∙ ap chunk_size same.0 ∙ size') same.1 in
    let tails : tail ≡ tail' = append_cancel_left crlf tail tail' front.1 in
    let on = one_body m n chunks others tail' rest left (subst (λ t. IsBodyWithin m chunks t rest) tails body) body' in
    (cc (front.0, on.0), on.1)
