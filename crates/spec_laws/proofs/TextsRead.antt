-- The content of a string in a text in UTF-8 is in UTF-8.
use Rattle.std.proofs.Common.{◌≡◌, ◌<◌, ◌+◌, ◌*◌, ◌==◌, ◌&&◌, ◌||◌, ℕ, List, [], ◌∷◌, ◌++◌, length, get_or, Bool, true, false, cond, nat_lt, Option, Some, None, IfSome, option_and_then, refl, sym, subst, arith, append_assoc, append-nil, length-append}
use Rattle.std.proofs.Math.Seq.{take-append_seam, drop-append-add, get_or-append_seam}
use Rattle.std.proofs.lemmas.Bool.{ltb-true}
use Rattle.std.proofs.lemmas.Bool.Decides.{nat_tests}
use Rattle.std.proofs.lemmas.Str.{IsUtf8-append, IsUtf8-encode, IsUtf8-take, IsUtf8-drop, IsCharBoundary-before_ascii, IsCharBoundary-after_ascii, encode_ascii}
use Rattle.std.specs.Char.{is_digit, digit_value}
use Rattle.std.specs.Str.{IsUtf8}
use lib.Utf8.{scalar, encode, low_scalar}
use Rattle.json.specs.Text.{code_unit, short_escape, is_high_surrogate, is_low_surrogate, surrogate_pair, plain, after_backslash, after_u, after_high, prepend, content}
use Rattle.spec_api.proofs.Truths.{both_true}

-- what stands before and after an ASCII byte
pub after_byte : (done xs : List ℕ) (x : ℕ) → x < 128 → IsUtf8 (done ++ x ∷ xs) → IsUtf8 done × IsUtf8 xs
after_byte done xs x low u =
    let all = done ++ x ∷ xs in
    let n = length done in
    let within : n < length all = omega (arith, length-append done (x ∷ xs)) in
    let byte : get_or all n 0 < 128 = omega (arith, get_or-append_seam done x xs 0, low) in
    let front = IsUtf8-take all n u (IsCharBoundary-before_ascii all n within byte) in
    let back = IsUtf8-drop all (n + 1) u (IsCharBoundary-after_ascii all n u within byte) in
    (subst IsUtf8 (take-append_seam done (x ∷ xs)) front, subst IsUtf8 (drop-append-add done (x ∷ xs) 1) back)

pub one_byte : (x : ℕ) → x < 128 → IsUtf8 (x ∷ [])
one_byte x low = subst IsUtf8 (encode_ascii x low) (IsUtf8-encode x (low_scalar x (omega (arith, low))))

-- ---- what is read after what is done

abbrev Good : List ℕ → Option (List ℕ) → Type 0
Good done o = IfSome o (λ s. IsUtf8 (done ++ s))

either_good : (b : Bool) (done : List ℕ) (x y : Option (List ℕ)) → (b ≡ true → Good done x) → (b ≡ false → Good done y) → Good done (cond b x y)
either_good true done x y p q = p refl
either_good false done x y p q = q refl

prepended : (done bytes : List ℕ) (o : Option (List ℕ)) → IsUtf8 done → IsUtf8 bytes → Good [] o → Good done (prepend bytes o)
prepended done bytes None d b g = tt
prepended done bytes (Some s) d b g = IsUtf8-append done (bytes ++ s) d (IsUtf8-append bytes s b g)

run_on : (done : List ℕ) (x : ℕ) (o : Option (List ℕ)) → Good (done ++ x ∷ []) o → Good done (prepend (x ∷ []) o)
run_on done x None g = tt
run_on done x (Some s) g = subst IsUtf8 (append_assoc done (x ∷ []) s) g

then_good : (P : ℕ → Type 0) (o : Option ℕ) (f : ℕ → Option (List ℕ)) (done : List ℕ) → IfSome o P → ((c : ℕ) → P c → Good done (f c)) → Good done (option_and_then f o)
then_good P None f done h next = tt
then_good P (Some c) f done h next = next c h

-- ---- escapes

abbrev IsShort : ℕ → ℕ → Type 0
IsShort y c = (c < 128) × (y < 128)

short_if : (b : Bool) (y : ℕ) (x z : Option ℕ) → (b ≡ true → IfSome x (IsShort y)) → IfSome z (IsShort y) → IfSome (cond b x z) (IsShort y)
short_if true y x z p q = p refl
short_if false y x z p q = q

short_low : (y : ℕ) → IfSome (short_escape y) (IsShort y)
unfolding short_escape
short_low y =
    short_if ((y == 34) || (y == 92) || (y == 47)) y _ _ (λ h. let l : y < 128 = grind (arith, nat_tests) in (l, l))
    (short_if (y == 98) y _ _ (λ h. (omega arith, grind (arith, nat_tests)))
    (short_if (y == 102) y _ _ (λ h. (omega arith, grind (arith, nat_tests)))
    (short_if (y == 110) y _ _ (λ h. (omega arith, grind (arith, nat_tests)))
    (short_if (y == 114) y _ _ (λ h. (omega arith, grind (arith, nat_tests))) (short_if (y == 116) y _ _ (λ h. (omega arith, grind (arith, nat_tests))) tt)))))

digit_low : (a : ℕ) → is_digit a 16 ≡ true → a < 128
digit_low a h = grind (arith, nat_tests)

-- the code unit that four digits spell
record IsUnit (a b c d u : ℕ) : Type 0 where
  first : a < 128
  second : b < 128
  third : c < 128
  fourth : d < 128
  low : u < 65536

unit_if : (v : Bool) (a b c d : ℕ) → (is_digit a 16 && is_digit b 16 && is_digit c 16 && is_digit d 16) ≡ v
    → IfSome (cond v (Some (digit_value a * 4096 + digit_value b * 256 + digit_value c * 16 + digit_value d)) None) (IsUnit a b c d)
unit_if false a b c d is = tt
unit_if true a b c d is =
    let three = both_true (is_digit a 16 && is_digit b 16 && is_digit c 16) (is_digit d 16) is in
    let two = both_true (is_digit a 16 && is_digit b 16) (is_digit c 16) three.0 in
    let one = both_true (is_digit a 16) (is_digit b 16) two.0 in
    let p = ltb-true (digit_value a) 16 one.0 in
    let q = ltb-true (digit_value b) 16 one.1 in
    let r = ltb-true (digit_value c) 16 two.1 in
    let s = ltb-true (digit_value d) 16 three.1 in
    record { first = digit_low a one.0; second = digit_low b one.1; third = digit_low c two.1; fourth = digit_low d three.1; low = omega (arith, p, q, r, s) }

unit_is : (a b c d : ℕ) → IfSome (code_unit a b c d) (IsUnit a b c d)
unfolding code_unit
unit_is a b c d = unit_if (is_digit a 16 && is_digit b 16 && is_digit c 16 && is_digit d 16) a b c d refl

after_unit : (a b c d u : ℕ) (xs : List ℕ) → IsUnit a b c d u → IsUtf8 (a ∷ b ∷ c ∷ d ∷ xs) → IsUtf8 xs
after_unit a b c d u xs unit text =
    let one = (after_byte [] (b ∷ c ∷ d ∷ xs) a unit.first text).1 in
    let two = (after_byte [] (c ∷ d ∷ xs) b unit.second one).1 in
    let three = (after_byte [] (d ∷ xs) c unit.third two).1 in
    (after_byte [] xs d unit.fourth three).1

unit_scalar : (u : ℕ) → u < 65536 → is_high_surrogate u ≡ false → is_low_surrogate u ≡ false → scalar u ≡ true
unit_scalar u low h l = grind (arith, nat_tests)

pair_scalar : (h l : ℕ) → is_high_surrogate h ≡ true → is_low_surrogate l ≡ true → scalar (surrogate_pair h l) ≡ true
pair_scalar h l high low = grind (arith, nat_tests)

-- ---- the content

mutual
  unfolding content

  plain_text : (done xs : List ℕ) → IsUtf8 (done ++ xs) → Good done (content plain xs)
  plain_text done [] text = tt
  plain_text done (x ∷ xs) text =
      either_good (x == 34) done _ _ (λ h. subst IsUtf8 (sym (append-nil done)) (after_byte done xs x (grind (arith, nat_tests)) text).0)
      (λ _. either_good (x == 92) done _ _ (λ h. let parts = after_byte done xs x (grind (arith, nat_tests)) text in escape_text done xs parts.0 parts.1)
      (λ _. either_good (nat_lt x 32) done _ _ (λ _. tt) (λ _. run_on done x (content plain xs) (plain_text (done ++ x ∷ []) xs (subst IsUtf8 (sym (append_assoc done (x ∷ []) xs)) text)))))

  escape_text : (done xs : List ℕ) → IsUtf8 done → IsUtf8 xs → Good done (content after_backslash xs)
  escape_text done [] before text = tt
  escape_text done (y ∷ ys) before text =
      either_good (y == 117) done _ _ (λ h. unit_text done ys before (after_byte [] ys y (grind (arith, nat_tests)) text).1)
      (λ _. then_good (IsShort y) (short_escape y) (λ c. prepend (c ∷ []) (content plain ys)) done (short_low y)
      (λ c short. prepended done (c ∷ []) (content plain ys) before (one_byte c short.0) (plain_text [] ys (after_byte [] ys y short.1 text).1)))

  unit_text : (done xs : List ℕ) → IsUtf8 done → IsUtf8 xs → Good done (content after_u xs)
  unit_text done [] before text = tt
  unit_text done (a ∷ []) before text = tt
  unit_text done (a ∷ b ∷ []) before text = tt
  unit_text done (a ∷ b ∷ c ∷ []) before text = tt
  unit_text done (a ∷ b ∷ c ∷ d ∷ xs) before text =
      then_good (IsUnit a b c d) (code_unit a b c d) _ done (unit_is a b c d)
      (λ u unit. either_good (is_high_surrogate u) done _ _ (λ h. pair_text u done xs h before (after_unit a b c d u xs unit text))
      (λ h. either_good (is_low_surrogate u) done _ _ (λ _. tt)
      (λ l. prepended done (encode u) (content plain xs) before (IsUtf8-encode u (unit_scalar u unit.low h l)) (plain_text [] xs (after_unit a b c d u xs unit text)))))

  pair_text : (h : ℕ) (done xs : List ℕ) → is_high_surrogate h ≡ true → IsUtf8 done → IsUtf8 xs → Good done (content (after_high h) xs)
  pair_text h done [] high before text = tt
  pair_text h done (s ∷ []) high before text = tt
  pair_text h done (s ∷ u ∷ []) high before text = tt
  pair_text h done (s ∷ u ∷ a ∷ []) high before text = tt
  pair_text h done (s ∷ u ∷ a ∷ b ∷ []) high before text = tt
  pair_text h done (s ∷ u ∷ a ∷ b ∷ c ∷ []) high before text = tt
  pair_text h done (s ∷ u ∷ a ∷ b ∷ c ∷ d ∷ xs) high before text =
      either_good ((s == 92) && (u == 117)) done _ _
      (λ is. then_good (IsUnit a b c d) (code_unit a b c d) _ done (unit_is a b c d)
      (λ l unit. either_good (is_low_surrogate l) done _ _
      (λ low. let parts = both_true (s == 92) (u == 117) is in
      let one = (after_byte [] (u ∷ a ∷ b ∷ c ∷ d ∷ xs) s (grind (arith, nat_tests)) text).1 in
      let two = (after_byte [] (a ∷ b ∷ c ∷ d ∷ xs) u (grind (arith, nat_tests)) one).1 in
      prepended done (encode (surrogate_pair h l)) (content plain xs) before (IsUtf8-encode (surrogate_pair h l) (pair_scalar h l high low)) (plain_text [] xs (after_unit a b c d l xs unit two)))
      (λ _. tt))) (λ _. tt)

pub content_text : (xs : List ℕ) → IsUtf8 xs → IfSome (content plain xs) IsUtf8
content_text xs text = plain_text [] xs text
