-- When nothing is left.
use Rattle.std.proofs.Common.{◌≡◌, ◌==◌, ◌&&◌, refl, ap, sym, ◌∙◌, nat_eq, zero, suc, length, string_bytes, String, Global, ℕ, List, [], ◌∷◌, arith}
use Rattle.std.proofs.lemmas.Bool.Decides.{nat_tests}
use Rattle.std.specs.FinSet as set
use Rattle.std.specs.FinSet.{len-empty}
use Rattle.object_keys.specs.Seen.{seen_set}
use Rattle.expectations.specs.Seen.{uid_cmp}
use Rattle.expectations.proofs.SeenTexts.{no_texts}

none_of : (ks : List (String Global)) (n : ℕ) → set.len (seen_set uid_cmp string_bytes ks) ≡ n → nat_eq (length ks) 0 ≡ (n == 0)
none_of [] n e = let zero : n ≡ 0 = sym e ∙ len-empty uid_cmp in grind (arith, nat_tests, zero)
none_of (k ∷ ks) zero e = let none = no_texts (k ∷ ks) e in absurd (let l : length (k ∷ ks) ≡ 0 = ap length none in omega (arith, l))
none_of (k ∷ ks) (suc n) e = grind (arith, nat_tests)

pub none_are : (c l : ℕ) (ks : List (String Global)) → l ≡ length ks → c ≡ 0 → nat_eq l 0 ≡ ((c == 0) && (set.len (seen_set uid_cmp string_bytes ks) == 0))
none_are c l ks e z = ap (λ l. nat_eq l 0) e ∙ none_of ks _ refl ∙ ap (λ c. (c == 0) && (set.len (seen_set uid_cmp string_bytes ks) == 0)) (sym z)
