-- What some pass knows, as passes move, part and meet.
use Rattle.std.proofs.Common.{◌≡◌, ◌⊎◌, ℕ, zero, suc, true≢false, List, [], ◌∷◌, ◌++◌, length, set, sym, refl, ap, ◌∙◌, subst, inl, inr, ⊎_elim}
use Rattle.std.specs.Prelude.{is_some}
use mathlib.Core.Option.{some, some-ne-none, some-injective}
use lib.ListN.{get_elem?}
use Rattle.crossbeam_queue.proofs.Lists.{at_longer, at_last, set_here, set_else}
use Rattle.baton.specs.declared.views.Known.{Known}
use Rattle.baton.specs.declared.views.PassView.{PassView}
use Rattle.baton.specs.Passes.{blank, alone, hosting, Knows, SomePass, IsSigned}
use Rattle.baton.proofs.Seats.{within}

module _ {X : Type 0} where
  -- what is set at a place leaves the other places
  pub set_cases : (l : List X) (i j : ℕ) (a b : X) → get_elem? l j ≡ some b → ((j ≡ i) × (get_elem? (set l i a) i ≡ some a)) ⊎ (get_elem? (set l i a) j ≡ some b)
  set_cases [] i j a b e = absurd (some-ne-none b (sym e))
  set_cases (x ∷ xs) zero zero a b e = inl (refl, refl)
  set_cases (x ∷ xs) zero (suc j) a b e = inr e
  set_cases (x ∷ xs) (suc i) zero a b e = inr e
  set_cases (x ∷ xs) (suc i) (suc j) a b e = ⊎_elim (λ (t : (j ≡ i) × (get_elem? (set xs i a) i ≡ some a)). inl (ap suc t.0, t.1)) (λ t. inr t) (set_cases xs i j a b e)

module _ {T E : Type 0} (Q : ℕ → List (ℕ × E) → Type 0) where
  -- either part of a view
  abbrev Either : PassView T E → Type 0
  Either v = Knows Q v.own ⊎ Knows Q v.guest

  nobody : (k : Known T E) → k ≡ blank → ¬ (Knows Q k)
  nobody k is q = true≢false (sym q.0 ∙ ap (λ (z : Known T E). is_some z.opening) is)

  same_view : (views : List (PassView T E)) (i j : ℕ) (v u : PassView T E) → i ≡ j → get_elem? views j ≡ some v → get_elem? views i ≡ some u → u ≡ v
  same_view views i j v u is at there = some-injective u v (sym there ∙ ap (get_elem? views) is ∙ at)

  pub some_set : (views : List (PassView T E)) (pass : ℕ) (v w : PassView T E) → get_elem? views pass ≡ some v → (Knows Q v.own → Knows Q w.own) → (Knows Q v.guest → Knows Q w.guest) → SomePass Q views → SomePass Q (set views pass w)
  some_set views pass v w at own guest s = ⊎_elim
      (λ (t : (s.0 ≡ pass) × (get_elem? (set views pass w) pass ≡ some w)).
      (pass, w, t.1, ⊎_elim (λ (q : Knows Q v.own). inl (own q)) (λ (q : Knows Q v.guest). inr (guest q)) (subst Either (same_view views s.0 pass v s.1 t.0 at s.2) s.3)))
      (λ (t : get_elem? (set views pass w) s.0 ≡ some s.1). (s.0, s.1, t, s.3)) (set_cases views pass s.0 w s.1 s.2)

  pub some_fork : (views : List (PassView T E)) (pass : ℕ) (v : PassView T E) (l r : Known T E) → get_elem? views pass ≡ some v → (Knows Q v.own → Knows Q l) → (Knows Q v.guest → Knows Q r) → SomePass Q views
      → SomePass Q (set views pass (alone l) ++ alone r ∷ [])
  some_fork views pass v l r at own guest s =
      let views' = set views pass (alone l) in ⊎_elim
      (λ (t : (s.0 ≡ pass) × (get_elem? views' pass ≡ some (alone l))).
      ⊎_elim (λ (q : Knows Q v.own). (pass, alone l, at_longer views' (alone r ∷ []) pass (alone l) t.1, inl (own q)))
      (λ (q : Knows Q v.guest). (length views', alone r, at_last views' (alone r) (length views') refl, inl (guest q))) (subst Either (same_view views s.0 pass v s.1 t.0 at s.2) s.3))
      (λ (t : get_elem? views' s.0 ≡ some s.1). (s.0, s.1, at_longer views' (alone r ∷ []) s.0 s.1 t, s.3)) (set_cases views pass s.0 (alone l) s.1 s.2)

  pub some_merge : (views : List (PassView T E)) (pass : ℕ) (v : PassView T E) (other : ℕ) (w : PassView T E) → get_elem? views pass ≡ some v → ¬ (other ≡ pass) → get_elem? (set views pass (hosting v w)) other ≡ some w
      → v.guest ≡ blank → w.guest ≡ blank → SomePass Q views → SomePass Q (set (set views pass (hosting v w)) other (alone blank))
  some_merge views pass v other w at two at' lone lone' s =
      let views' = set views pass (hosting v w) in let views'' = set views' other (alone blank) in
      let host : get_elem? views'' pass ≡ some (hosting v w) = set_else views' other pass (alone blank) (λ e. two (sym e)) ∙ set_here views pass (hosting v w) (within views pass v at) in ⊎_elim
      (λ (t : (s.0 ≡ pass) × (get_elem? views' pass ≡ some (hosting v w))).
      ⊎_elim (λ (q : Knows Q v.own). (pass, hosting v w, host, inl q)) (λ (q : Knows Q v.guest). absurd (nobody v.guest lone q)) (subst Either (same_view views s.0 pass v s.1 t.0 at s.2) s.3))
      (λ (t : get_elem? views' s.0 ≡ some s.1).
      ⊎_elim (λ (d : (s.0 ≡ other) × (get_elem? views'' other ≡ some (alone blank))).
      ⊎_elim (λ (q : Knows Q w.own). (pass, hosting v w, host, inr q)) (λ (q : Knows Q w.guest). absurd (nobody w.guest lone' q)) (subst Either (same_view views' s.0 other w s.1 d.0 at' t) s.3))
      (λ (d : get_elem? views'' s.0 ≡ some s.1). (s.0, s.1, d, s.3)) (set_cases views' other s.0 (alone blank) s.1 t)) (set_cases views pass s.0 (hosting v w) s.1 s.2)

module _ {T E : Type 0} where
  pub still_signed : (h : List (ℕ × E)) (views views' : List (PassView T E)) → ((n : ℕ) → SomePass (λ other seen. other ≡ n) views → SomePass (λ other seen. other ≡ n) views') → IsSigned h views → IsSigned h views'
  still_signed h views views' f s front n e rest is = f n (s front n e rest is)
