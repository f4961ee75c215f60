-- Keys in hands: a key that is taken, and one that is given back.
use Rattle.std.proofs.Common.{◌≡◌, ◌≢◌, ◌⊎◌, inl, inr, ⊎_elim, ℕ, refl, sym, ap, ◌∙◌, Bool, true, false, true≢false, not, ◌&&◌, ◌||◌, ◌==◌, arith}
use Rattle.std.specs.Prelude.{Option, Some, None}
use Rattle.std.proofs.lemmas.Bool.Decides.{nat_tests}
use Rattle.std.specs.Cmp.{Equal-is, IsTotalOrder, tied_itself}
use Rattle.std.specs.Ordering.{eq_by_cmp, is_eq}
use Rattle.std.specs.FinSet as set
use Rattle.std.specs.FinSet.{IsAntisymmetric, contains-insert, contains-remove}
use Rattle.std.specs.declared.cmp.Ordering.{Ordering}
use Rattle.spec_client_go.specs.KeysInHands.{AreHands}

-- ---- hands and keys in process

pub same_name : (i j : ℕ) → (i ≡ j) ⊎ (i ≢ j)
same_name i j = by (i == j) refl
  where
    by : (b : Bool) → (i == j) ≡ b → (i ≡ j) ⊎ (i ≢ j)
    by true e = inl (grind (arith, nat_tests))
    by false e = inr (λ is. grind (arith, nat_tests))

pub some_same : {X : Type 0} (x y : X) (o : Option X) → o ≡ Some x → o ≡ Some y → x ≡ y
some_same x y o a b = let e : Some x ≡ Some y = sym a ∙ b in cc

pub not_both : {X : Type 0} {P : Type 0} (x : X) (o : Option X) → o ≡ Some x → o ≡ None → P
not_both x o a b = let e : Some x ≡ None = sym a ∙ b in absurd (cc)

module _ {N : Type 0} (R : N → N → Ordering) (total : IsTotalOrder R) (tells_same : IsAntisymmetric R) where
  abbrev pub same : N → N → Bool
  same = eq_by_cmp R

  pub same_itself : (k : N) → same k k ≡ true
  same_itself k = ap is_eq (tied_itself total k)

  pub tells : (q k : N) → same q k ≡ true → q ≡ k
  tells q k e = tells_same q k ((Equal-is (R q k)).0 e)

  module _ (f g : ℕ → Option N) (p : set.FinSet R) (h : AreHands f p) where
    -- no hand changes
    pub kept_hands : ((i : ℕ) → g i ≡ f i) → AreHands g p
    kept_hands is = record {
      taken = λ k e. let t = h.taken k e in (t.0, is t.0 ∙ t.1);
      processed = λ i k e. h.processed i k (sym (is i) ∙ e);
      apart = λ i j k a b. h.apart i j k (sym (is i) ∙ a) (sym (is j) ∙ b);
    }

    -- an empty hand takes a key that is in no hand
    pub taken_hands : (name : ℕ) (k : N) → f name ≡ None → g name ≡ Some k → ((i : ℕ) → i ≢ name → g i ≡ f i) → set.contains p k ≡ false → AreHands g (set.insert p k)
    taken_hands name k was now others free = record {
      taken = λ q e. by q (same q k) refl (sym (contains-insert total p k q) ∙ e);
      processed = λ i q e.
          contains-insert total p k q
          ∙ ⊎_elim (λ (a : i ≡ name). ap (λ b. b || set.contains p q) (ap (same q) (sym (some_same q k (g name) (ap g (sym a) ∙ e) now)) ∙ same_itself q)) (λ (a : i ≢ name). or_true (same q k) (h.processed i q (sym (others i a) ∙ e))) (same_name i name);
      apart = λ i j q a b.
          ⊎_elim
          (λ (x : i ≡ name).
          ⊎_elim (λ (y : j ≡ name). x ∙ sym y) (λ (y : j ≢ name). absurd (true≢false (sym (h.processed j q (sym (others j y) ∙ b)) ∙ ap (set.contains p) (some_same q k (g name) (ap g (sym x) ∙ a) now) ∙ free))) (same_name j name))
          (λ (x : i ≢ name).
          ⊎_elim (λ (y : j ≡ name). absurd (true≢false (sym (h.processed i q (sym (others i x) ∙ a)) ∙ ap (set.contains p) (some_same q k (g name) (ap g (sym y) ∙ b) now) ∙ free)))
          (λ (y : j ≢ name). h.apart i j q (sym (others i x) ∙ a) (sym (others j y) ∙ b)) (same_name j name)) (same_name i name);
    }
      where
        or_true : (a : Bool) {b : Bool} → b ≡ true → (a || b) ≡ true
        or_true true e = refl
        or_true false e = e

        by : (q : N) (b : Bool) → same q k ≡ b → (same q k || set.contains p q) ≡ true → (i : ℕ) × (g i ≡ Some q)
        by q true t e = (name, now ∙ ap (λ x. Some x) (sym (tells q k t)))
        by q false t e =
            let old = h.taken q (sym (ap (λ b. b || set.contains p q) t) ∙ e) in
            ⊎_elim (λ (a : old.0 ≡ name). not_both q (f name) (ap f (sym a) ∙ old.1) was) (λ (a : old.0 ≢ name). (old.0, others old.0 a ∙ old.1)) (same_name old.0 name)

    -- a hand gives its key back
    pub emptied_hands : (name : ℕ) (k : N) → f name ≡ Some k → g name ≡ None → ((i : ℕ) → i ≢ name → g i ≡ f i) → AreHands g (set.remove p k)
    emptied_hands name k was now others = record {
      taken = λ q e. by q (same q k) refl (sym (contains-remove total p k q) ∙ e);
      processed = λ i q e.
          ⊎_elim (λ (a : i ≡ name). not_both q (g name) (ap g (sym a) ∙ e) now) (λ (a : i ≢ name). contains-remove total p k q ∙ stays i q a (sym (others i a) ∙ e) (same q k) refl) (same_name i name);
      apart = λ i j q a b.
          ⊎_elim (λ (x : i ≡ name). not_both q (g name) (ap g (sym x) ∙ a) now)
          (λ (x : i ≢ name). ⊎_elim (λ (y : j ≡ name). not_both q (g name) (ap g (sym y) ∙ b) now) (λ (y : j ≢ name). h.apart i j q (sym (others i x) ∙ a) (sym (others j y) ∙ b)) (same_name j name)) (same_name i name);
    }
      where
        stays : (i : ℕ) (q : N) → i ≢ name → f i ≡ Some q → (b : Bool) → same q k ≡ b → (not (same q k) && set.contains p q) ≡ true
        stays i q a e true t = absurd (a (h.apart i name k (e ∙ ap (λ x. Some x) (tells q k t)) was))
        stays i q a e false t = ap (λ b. not b && set.contains p q) t ∙ h.processed i q e

        by : (q : N) (b : Bool) → same q k ≡ b → (not (same q k) && set.contains p q) ≡ true → (i : ℕ) × (g i ≡ Some q)
        by q true t e = absurd (true≢false (sym e ∙ ap (λ b. not b && set.contains p q) t))
        by q false t e =
            let old = h.taken q (sym (ap (λ b. not b && set.contains p q) t) ∙ e) in
            ⊎_elim (λ (a : old.0 ≡ name). absurd (true≢false (sym (same_itself k) ∙ ap (same k) (some_same k q (f name) was (ap f (sym a) ∙ old.1)) ∙ swapped q t))) (λ (a : old.0 ≢ name). (old.0, others old.0 a ∙ old.1)) (same_name old.0 name)
          where
            swapped : (q : N) → same q k ≡ false → same k q ≡ false
            swapped q t = turned (same k q) refl
              where
                turned : (b : Bool) → same k q ≡ b → same k q ≡ false
                turned true e = absurd (true≢false (sym (same_itself k) ∙ ap (λ x. same x k) (tells k q e) ∙ t))
                turned false e = e
