-- A uid that this server prints is parsed as the number that it is printed of.
use Rattle.std.proofs.Common.{◌≡◌, inl, ℕ, zero, suc, ◌%◌, ◌^◌, ◌<◌, List, length, Bool, true, false, cond, ◌&&◌, nat_lt, Some, None, refl, sym, ap, ◌∙◌, arith, get_or}
use Rattle.std.proofs.lemmas.Bool.{lt-ltb}
use Rattle.std.proofs.lemmas.Bool.Decides.{nat_tests}
use Rattle.std.proofs.lemmas.Slice.Eq.{bytes_eq-Decides}
use Rattle.std.specs.Int.{from_be_bytes, to_be_bytes, w128, byte_at, bytes_high_first}
use Rattle.std.specs.List.{All}
use Rattle.std.specs.Str.{bytes_eq}
use Rattle.spec_api.proofs.Truths.{both_true}
use Rattle.spec_api.specs.Uids.{uid_text, uid_revision}
use Rattle.spec_api.proofs.Uids.{existing}
use Rattle.metadata_values.proofs.Hexadecimal.{uid_number, uid-text}
use Rattle.uuid.specs.Text.{lower, parsed}
use Rattle.uuid.proofs.OrderLemmas.{from_be_bytes-to_be_bytes_16}
use Rattle.uuid.proofs.RoundTrips.{parses_hyphenated}

small : (k n : ℕ) → byte_at k n < 256
small zero n = omega arith
small (suc k) n = omega arith

small_at : (k n i d : ℕ) → i < length (bytes_high_first k n) → get_or (bytes_high_first k n) i d < 256
small_at zero n i d h = absurd (omega (arith, h))
small_at (suc k) n zero d h = small k n
small_at (suc k) n (suc i) d h = small_at k n i d (omega (arith, h))

all_small : (n : ℕ) → All (λ b. b < 256) (to_be_bytes w128 n)
all_small n = λ i d h. small_at 16 n i d h

pub parsed_again : (r : ℕ) → r < 2 ^ 62 → Some (to_be_bytes w128 (uid_number 0 r)) ≡ parsed (uid_text 0 r)
parsed_again r h = parses_hyphenated lower (to_be_bytes w128 (uid_number 0 r)) (inl refl) refl (all_small (uid_number 0 r)) ∙ ap parsed (uid-text 0 r h)

-- the revision in sixteen bytes
abbrev pub low_bits : List ℕ → ℕ
low_bits x = from_be_bytes w128 x % 2 ^ 64 % 2 ^ 62

low_again : (r : ℕ) → r < 2 ^ 62 → low_bits (to_be_bytes w128 (uid_number 0 r)) ≡ r
low_again r h =
    let whole : uid_number 0 r < 2 ^ 128 = omega (arith, h) in
    ap (λ n. n % 2 ^ 64 % 2 ^ 62) (from_be_bytes-to_be_bytes_16 (uid_number 0 r) whole) ∙ omega (arith, h)

abbrev pub is_own : List ℕ → Bool
is_own t = bytes_eq t (uid_text 0 (uid_revision t)) && nat_lt (uid_revision t) (2 ^ 62)

-- what is_own says
own : (t : List ℕ) → is_own t ≡ true → (t ≡ uid_text 0 (uid_revision t)) × (uid_revision t < 2 ^ 62)
own t h =
    let b = both_true (bytes_eq t (uid_text 0 (uid_revision t))) (nat_lt (uid_revision t) (2 ^ 62)) h in
    let second : nat_lt (uid_revision t) (2 ^ 62) ≡ true = b.1 in
    ((bytes_eq-Decides t (uid_text 0 (uid_revision t))).0 b.0, grind (arith, nat_tests))

some-inj : {A : Type 0} (a b : A) → Some a ≡ Some b → a ≡ b
some-inj a b h = cc

pub is_printed : (t : List ℕ) (c : ℕ) → c < 2 ^ 62 → bytes_eq t (uid_text 0 c) ≡ true → Some c ≡ cond (is_own t) (Some (uid_revision t)) None
is_printed t c below h =
    let e : t ≡ uid_text 0 c = (bytes_eq-Decides t (uid_text 0 c)).0 h in
    let r : uid_revision t ≡ c = ap uid_revision e ∙ existing 0 c below in
    let l : nat_lt c (2 ^ 62) ≡ true = lt-ltb c (2 ^ 62) below in
    rw (r, h, l) refl

not_own : (t : List ℕ) (b : Bool) → is_own t ≡ b → (is_own t ≡ true → ⊥) → None ≡ cond (is_own t) (Some (uid_revision t)) None
not_own t true e out = absurd (out e)
not_own t false e out = rw e refl

pub is_other : (t x : List ℕ) → Some x ≡ parsed t → bytes_eq t (uid_text 0 (low_bits x)) ≡ false → None ≡ cond (is_own t) (Some (uid_revision t)) None
is_other t x is h = not_own t (is_own t) refl (λ o.
    let p = own t o in
    let r = uid_revision t in
    let same : x ≡ to_be_bytes w128 (uid_number 0 r) = some-inj x (to_be_bytes w128 (uid_number 0 r)) (is ∙ ap parsed p.0 ∙ sym (parsed_again r p.1)) in
    let low : low_bits x ≡ r = ap low_bits same ∙ low_again r p.1 in
    let yes : bytes_eq t (uid_text 0 (low_bits x)) ≡ true = ap (λ n. bytes_eq t (uid_text 0 n)) low ∙ (both_true (bytes_eq t (uid_text 0 r)) (nat_lt r (2 ^ 62)) o).0 in
    cc)

pub is_unread : (t : List ℕ) → (((x : List ℕ) × (parsed t ≡ Some x)) → ⊥) → None ≡ cond (is_own t) (Some (uid_revision t)) None
is_unread t out = not_own t (is_own t) refl (λ o. let p = own t o in out (to_be_bytes w128 (uid_number 0 (uid_revision t)), ap parsed p.0 ∙ sym (parsed_again (uid_revision t) p.1)))

pub future_at : (b : Bool) (r n p : ℕ) → Some n ≡ cond b (Some r) None → nat_lt p n ≡ (b && nat_lt p r)
future_at true r n p h = ap (nat_lt p) (some-inj n r h)
future_at false r n p h = cc

pub not_future : (b : Bool) (r p : ℕ) → None ≡ cond b (Some r) None → false ≡ (b && nat_lt p r)
not_future true r p h = cc
not_future false r p h = refl
