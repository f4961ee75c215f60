-- The hyphenated text of sixteen bytes, as groups of hexadecimal digits of one number.
use Rattle.std.proofs.Common.{◌≡◌, ℕ, zero, suc, ◌+◌, ◌*◌, ◌/◌, ◌%◌, ◌^◌, ◌<◌, List, [], ◌∷◌, ◌++◌, take, drop, codes, refl, sym, ap, ◌∙◌, arith}
use Rattle.std.proofs.Math.Nat.{div-div-eq-div-mul, pow-suc, pow-succ'}
use Rattle.std.proofs.lemmas.Bool.Decides.{nat_tests}
use Rattle.std.specs.Char.{digit_char}
use Rattle.std.specs.Int.{byte_at, bytes_high_first, to_be_bytes, w128}
use Rattle.uuid.specs.Text.{by_index, hex_digit, hyphenated_text, lower}
use Rattle.spec_api.specs.Uids.{hex, uid_text}

-- the first digit of one digit more
hex-cons : (n x : ℕ) → hex (suc n) x ≡ digit_char (x / 16 ^ n % 16) ∷ hex n x
hex-cons zero x = let e : x / 1 ≡ x = omega arith in rw e refl
hex-cons (suc n) x =
    rw (hex-cons n (x / 16), div-div-eq-div-mul x 16 (16 ^ n), sym (pow-succ' 16 n)) refl

-- digits stand for the low part of a number
hex-low : (n k x : ℕ) → hex n (k * 16 ^ n + x) ≡ hex n x
hex-low zero k x = refl
hex-low (suc n) k x =
    let p : 16 ^ suc n ≡ 16 * 16 ^ n = pow-succ' 16 n in
    let more : k * 16 ^ suc n ≡ 16 * (k * 16 ^ n) = rw p (omega arith) in
    let high : (k * 16 ^ suc n + x) / 16 ≡ k * 16 ^ n + x / 16 = rw more (omega arith) in
    let last : (k * 16 ^ suc n + x) % 16 ≡ x % 16 = rw more (omega arith) in
    rw (high, last, hex-low n k (x / 16)) refl

-- a number without its last digits
abbrev shift : ℕ → ℕ → ℕ
shift zero x = x
shift (suc n) x = shift n (x / 16)

shift-div : (n x : ℕ) → shift n x ≡ x / 16 ^ n
shift-div zero x = omega arith
shift-div (suc n) x = shift-div n (x / 16) ∙ div-div-eq-div-mul x 16 (16 ^ n) ∙ ap (λ p. x / p) (sym (pow-succ' 16 n))

-- the two digits of each byte
abbrev spread : List ℕ → List ℕ
spread [] = []
spread (b ∷ bs) = hex_digit lower (b / 16 % 16) ∷ hex_digit lower (b % 16) ∷ spread bs

-- 8-4-4-4-12 digits
abbrev grouped : List ℕ → List ℕ
grouped ds =
    take 8 ds ++ (45 ∷ (take 4 (drop 8 ds) ++ (45 ∷ (take 4 (drop 12 ds) ++ (45 ∷ (take 4 (drop 16 ds) ++ (45 ∷ drop 20 ds)))))))

digit-lower : (d : ℕ) → d < 16 → hex_digit lower d ≡ digit_char d
digit-lower d h = grind (arith, nat_tests)

byte_at-div : (k x : ℕ) → byte_at k x ≡ x / 256 ^ k % 256
byte_at-div zero x = let e : x / 1 ≡ x = omega arith in rw e refl
byte_at-div (suc k) x = refl

pow-twice : (k : ℕ) → 256 ^ k ≡ 16 ^ (k + k)
pow-twice zero = refl
pow-twice (suc k) =
    let e : suc k + suc k ≡ suc (suc (k + k)) = omega arith in
    rw (e, pow-suc 256 k, pow-suc 16 (suc (k + k)), pow-suc 16 (k + k), pow-twice k) (omega arith)

-- the digits of a number's bytes are the digits of the number
spread-bytes : (k x : ℕ) → spread (bytes_high_first k x) ≡ hex (k + k) x
spread-bytes zero x = refl
spread-bytes (suc k) x =
    let e : suc k + suc k ≡ suc (suc (k + k)) = omega arith in
    let high : byte_at k x / 16 % 16 ≡ x / 16 ^ suc (k + k) % 16 =
    rw (byte_at-div k x, pow-suc 16 (k + k), sym (div-div-eq-div-mul x (16 ^ (k + k)) 16), pow-twice k) (omega arith) in
    let low : byte_at k x % 16 ≡ x / 16 ^ (k + k) % 16 = rw (byte_at-div k x, pow-twice k) (omega arith) in
    rw (
      e,
      hex-cons (suc (k + k)) x,
      hex-cons (k + k) x,
      digit-lower (byte_at k x / 16 % 16) (omega arith),
      digit-lower (byte_at k x % 16) (omega arith),
      high,
      low,
      spread-bytes k x,
    ) refl

hyphenated-grouped : (x : ℕ) → hyphenated_text lower (to_be_bytes w128 x) ≡ grouped (spread (bytes_high_first 16 x))
unfolding by_index
hyphenated-grouped x = refl

grouped-hex : (x : ℕ) → grouped (hex 32 x) ≡ hex 8 (shift 24 x) ++ (45 ∷ (hex 4 (shift 20 x) ++ (45 ∷ (hex 4 (shift 16 x) ++ (45 ∷ (hex 4 (shift 12 x) ++ (45 ∷ hex 12 x)))))))
grouped-hex x = refl

-- the number whose sixteen bytes a uid is
abbrev pub uid_number : ℕ → ℕ → ℕ
uid_number cluster r = (cluster * 65536 + 32768) * 2 ^ 64 + (9223372036854775808 + r)

version-digits : (cluster : ℕ) → hex 4 (cluster * 65536 + 32768) ≡ codes "8000"
version-digits cluster = hex-low 4 cluster 32768

-- the text of those bytes is the text of the uid
pub uid-text : (cluster r : ℕ) → r < 2 ^ 62 → hyphenated_text lower (to_be_bytes w128 (uid_number cluster r)) ≡ uid_text cluster r
uid-text cluster r small =
    let x = uid_number cluster r in
    let a : x / 16 ^ 24 ≡ cluster / 2 ^ 16 = omega arith in
    let b : x / 16 ^ 20 ≡ cluster = omega arith in
    let d : x / 16 ^ 16 ≡ cluster * 65536 + 32768 = omega arith in
    let e : x / 16 ^ 12 ≡ (cluster * 65536 + 32768) * 16 ^ 4 + (2 ^ 63 + r) / 2 ^ 48 = omega arith in
    let f : x ≡ ((cluster * 65536 + 32768) * 65536 + (2 ^ 63 + r) / 2 ^ 48) * 16 ^ 12 + r % 2 ^ 48 = omega arith in
    let f' : hex 12 x ≡ hex 12 (r % 2 ^ 48) = ap (hex 12) f ∙ hex-low 12 ((cluster * 65536 + 32768) * 65536 + (2 ^ 63 + r) / 2 ^ 48) (r % 2 ^ 48) in
    let e' : hex 4 (x / 16 ^ 12) ≡ hex 4 ((2 ^ 63 + r) / 2 ^ 48) = ap (hex 4) e ∙ hex-low 4 (cluster * 65536 + 32768) ((2 ^ 63 + r) / 2 ^ 48) in
    let d' : hex 4 (x / 16 ^ 16) ≡ codes "8000" = ap (hex 4) d ∙ version-digits cluster in
    hyphenated-grouped x ∙ ap grouped (spread-bytes 16 x) ∙ grouped-hex x
    ∙ joined (ap (hex 8) (shift-div 24 x ∙ a)) (ap (hex 4) (shift-div 20 x ∙ b)) (ap (hex 4) (shift-div 16 x) ∙ d') (ap (hex 4) (shift-div 12 x) ∙ e') f'
  where
    joined : {a a' b b' d d' e e' f f' : List ℕ} → a ≡ a' → b ≡ b' → d ≡ d' → e ≡ e' → f ≡ f'
        → a ++ (45 ∷ (b ++ (45 ∷ (d ++ (45 ∷ (e ++ (45 ∷ f))))))) ≡ a' ++ (45 ∷ (b' ++ (45 ∷ (d' ++ (45 ∷ (e' ++ (45 ∷ f')))))))
    joined p q r s t = cc
