-- Passes get their names in order.
use Rattle.std.proofs.Common.{◌≡◌, ℕ, zero, suc, ◌+◌, List, [], ◌∷◌, ◌++◌, length, All, sym, ap, ◌∙◌, subst, length-append, arith}
use Rattle.std.specs.List.{range_with_len}
use Rattle.std.proofs.lemmas.List.{map-append}
use Rattle.std.proofs.lemmas.List.Elements.{All-append}
use Rattle.crossbeam_queue.specs.Passes.{Pass}
use Rattle.baton.specs.declared.views.PassView.{PassView}
use Rattle.baton.specs.Batons.{name_of, AreNumbered}

one_more : (a n j : ℕ) → a + n ≡ j → range_with_len a (suc n) ≡ range_with_len a n ++ j ∷ []
one_more a zero j e = let same : a ≡ j = omega arith in ap (λ k. k ∷ []) same
one_more a (suc n) j e = ap (λ l. a ∷ l) (one_more (a + 1) n j (omega arith))

module _ {T E : Type 0} where
  pub numbered_more : (passes : List (Pass T (PassView T E))) (p : Pass T (PassView T E)) → AreNumbered passes → name_of p ≡ length passes → AreNumbered (passes ++ p ∷ [])
  numbered_more passes p all is =
      let longer : suc (length passes) ≡ length (passes ++ p ∷ []) = omega (arith, length-append passes (p ∷ [])) in
      map-append name_of passes (p ∷ []) ∙ ap (λ l. l ++ name_of p ∷ []) all ∙ sym (one_more 0 (length passes) (name_of p) (omega (arith, is))) ∙ ap (range_with_len 0) longer

module _ {X : Type 0} (P : X → Type 0) where
  all_one : (x : X) → P x → All P (x ∷ [])
  all_one x p zero d lt = p
  all_one x p (suc k) d lt = absurd (omega arith)

  pub all_more : (xs ys : List X) (x : X) → ys ≡ xs ++ x ∷ [] → All P xs → P x → All P ys
  all_more xs ys x is all p = subst (All P) (sym is) (All-append P xs (x ∷ []) all (all_one x p))
