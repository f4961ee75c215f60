-- What a change in a chunk itself does to all entries.
use Rattle.std.proofs.Common.{◌≡◌, ◌++◌, ◌+◌, ◌<◌, ◌≤◌, ℕ, List, ◌∷◌, Bool, true, false, cond, not, suc, zero, arith, Ordering, Greater, refl, sym, ap, ◌∙◌, length, take, drop, subst}
use Rattle.std.specs.Cmp.{IsTotalOrder}
use Rattle.std.proofs.lemmas.List.{length-append, take-append-drop}
use Rattle.shared_map.specs.Entries.{put_entry}
use Rattle.shared_map.specs.Parts.{AllAre, AreFilled, BeginsAt, starts_after, joined}
use Rattle.shared_map.proofs.Between.{put_place}
use Rattle.shared_map.proofs.Joined.{joined_one, filled_one, around, length_without}
use Rattle.shared_map.proofs.Located.{put_at, length_at}
use Rattle.shared_map.proofs.Orders.{InOrder}

module _ {K X : Type 0} where
  -- the entries with one put at a place
  abbrev pub laid_at : List (K × X) → ℕ → Bool → K × X → List (K × X)
  laid_at C at found e = take at C ++ (e ∷ drop (at + cond found 1 0) C)

  length_cut : (C : List (K × X)) (at : ℕ) → length (take at C) + length (drop at C) ≡ length C
  length_cut C at = sym (length-append (take at C) (drop at C)) ∙ ap length (take-append-drop at C)

  pub length_laid : (C : List (K × X)) (at : ℕ) (found : Bool) (e : K × X) → at + cond found 1 0 ≤ length C → length (laid_at C at found e) ≡ length C + cond (not found) 1 0
  length_laid C at true e within = omega (arith, length-append (take at C) (e ∷ drop (at + 1) C), length-append (take at C) (drop (at + 1) C), length_without C at (omega (arith, within)))
  length_laid C at false e within = length-append (take at C) (e ∷ drop (at + 0) C) ∙ omega (arith, length_cut C at, ap (λ n. length (drop n C)) (none at))
    where
      none : (n : ℕ) → n + 0 ≡ n
      none n = omega arith

  pub some_laid : (C : List (K × X)) (at : ℕ) (found : Bool) (e : K × X) → 0 < length (laid_at C at found e)
  some_laid C at found e = omega (arith, length-append (take at C) (e ∷ drop (at + cond found 1 0) C))

  pub filled_set : (ps qs : List (List (K × X))) (i : ℕ) (M : List (K × X)) → qs ≡ take i ps ++ (M ∷ drop (i + 1) ps) → AreFilled ps → 0 < length M → AreFilled qs
  filled_set ps qs i M is f some = subst AreFilled (sym is) (filled_one ps i (i + 1) M f some)

  pub joined_set : (ps qs : List (List (K × X))) (i : ℕ) (M : List (K × X)) → qs ≡ take i ps ++ (M ∷ drop (i + 1) ps) → joined qs ≡ joined (take i ps) ++ (M ++ joined (drop (i + 1) ps))
  joined_set ps qs i M is = ap joined is ∙ joined_one (take i ps) (drop (i + 1) ps) M

  pub length_set : (ps qs : List (List (K × X))) (i : ℕ) (C M : List (K × X)) → qs ≡ take i ps ++ (M ∷ drop (i + 1) ps) → drop i ps ≡ C ∷ drop (i + 1) ps → (more : ℕ) → length M ≡ length C + more
      → length (joined qs) ≡ length (joined ps) + more
  length_set ps qs i C M is here more longer =
      let A = joined (take i ps) in
      let B = joined (drop (i + 1) ps) in
      omega (arith, longer, ap length (joined_set ps qs i M is), ap length (around ps i C here), length-append A (M ++ B), length-append M B, length-append A (C ++ B), length-append C B)

  pub put_set : {R : K → K → Ordering} (o : IsTotalOrder R) (ps qs : List (List (K × X))) (i : ℕ) (C : List (K × X)) (at : ℕ) (found : Bool) (e : K × X)
      → InOrder o (joined ps) → AreFilled ps → (0 < i → starts_after R e.0 (drop i ps) ≡ false) → starts_after R e.0 (drop (i + 1) ps) ≡ true → drop i ps ≡ C ∷ drop (i + 1) ps
      → AllAre R Greater e.0 (take at C) → BeginsAt R e.0 found (drop at C) → qs ≡ take i ps ++ (laid_at C at found e ∷ drop (i + 1) ps) → joined qs ≡ put_entry R (joined ps) e
  put_set {R = R} o ps qs i C at found e s f first next here under ahead is =
      joined_set ps qs i (laid_at C at found e) is
      ∙ ap (λ l. joined (take i ps) ++ (l ++ joined (drop (i + 1) ps))) (sym (put_place R C e at (at + cond found 1 0) found under ahead refl))
      ∙ sym (put_at o e.0 ps i C s f first next here e refl)

pub either : (b : Bool) (P : Type 0) → (b ≡ true → P) → (b ≡ false → P) → P
either true P at_true at_false = at_true refl
either false P at_true at_false = at_false refl
