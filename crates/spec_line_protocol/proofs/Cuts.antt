-- Where a line is cut.
use Rattle.std.proofs.Common.{◌≡◌, ℕ, zero, suc, ◌<◌, ◌≤◌, List, [], ◌∷◌, length, take, drop, get_or, true, false, Some, None, option_map, refl, ap, arith, ◌==◌}
use Rattle.spec_line_protocol.specs.Lines.{cut}

-- at a space that no space stands before
pub cut-here : (t : List ℕ) (i : ℕ) → i < length t → ((k : ℕ) → k < i → (get_or t k 0 == 32) ≡ false) → (get_or t i 0 == 32) ≡ true
    → cut t ≡ Some (take i t, drop 1 (drop i t))
cut-here [] i l before here = absurd (omega (arith, l))
cut-here (x ∷ t) zero l before here =
    let e : (x == 32) ≡ true = here in
    rw e refl
cut-here (x ∷ t) (suc i) l before here =
    let e : (x == 32) ≡ false = before 0 (omega arith) in
    rw e (ap (option_map (λ (p : List ℕ × List ℕ). (x ∷ p.0, p.1))) (cut-here t i (omega (arith, l)) (λ k m. before (suc k) (omega (arith, m))) here))

-- nowhere, where no space stands
pub cut-nowhere : (t : List ℕ) (n : ℕ) → length t ≤ n → ((k : ℕ) → k < n → (get_or t k 0 == 32) ≡ false) → cut t ≡ None
cut-nowhere [] n l before = refl
cut-nowhere (x ∷ t) zero l before = absurd (omega (arith, l))
cut-nowhere (x ∷ t) (suc n) l before =
    let e : (x == 32) ≡ false = before 0 (omega arith) in
    rw e (ap (option_map (λ (p : List ℕ × List ℕ). (x ∷ p.0, p.1))) (cut-nowhere t n (omega (arith, l)) (λ k m. before (suc k) (omega (arith, m)))))
