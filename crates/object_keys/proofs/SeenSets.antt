-- What a test, an insert and a removal do to a set, by what its keys say.
use Rattle.std.proofs.Common.{◌≡◌, refl, sym, ap, ◌∙◌, List, [], ◌∷◌, Bool, true, false, not, ◌&&◌, ◌||◌, map, Ordering, Less, Equal, Greater}
use mathlib.Core.Bool.{true≢false}
use Rattle.std.specs.Cmp.{Equal-is, IsTotalOrder, tied_itself}
use Rattle.std.specs.List.{list_any}
use Rattle.std.specs.Ordering.{eq_by_cmp, is_eq, match_ordering}
use Rattle.std.specs.BTreeMap.{is_at}
use Rattle.std.specs.BTreeSet.{insert_key}
use Rattle.std.specs.Set.{KeepsOthers}
use Rattle.std.specs.Map.{IsKeyTest, AreApart}
use Rattle.std.specs.FinSet as set
use Rattle.std.specs.FinSet.{IsAntisymmetric, contains-from_list, contains-insert, contains-remove, contains-empty, empty_of_len, same_set}
use Rattle.object_keys.specs.Seen.{seen_set}

module _ {K N : Type 0} (R : N → N → Ordering) (o : IsTotalOrder R) (apart : IsAntisymmetric R) (say : K → N) (cmp : K → K → Ordering) (alike : (a b : K) → cmp a b ≡ R (say a) (say b)) where
  abbrev seen : List K → set.FinSet R
  seen ks = seen_set R say ks

  abbrev same : N → N → Bool
  same = eq_by_cmp R

  tells : (q t : N) → same q t ≡ true → q ≡ t
  tells q t e = apart q t ((Equal-is (R q t)).0 e)

  -- keys that compare equal say the same
  pub says_same : (a b : K) → is_eq (cmp a b) ≡ true → say a ≡ say b
  says_same a b e = tells _ _ (ap is_eq (sym (alike a b)) ∙ e)

  any_seen : (q : N) (ks : List K) → list_any (same q) (map say ks) ≡ list_any (λ k. same q (say k)) ks
  any_seen q [] = refl
  any_seen q (k ∷ ks) = ap (λ b. same q (say k) || b) (any_seen q ks)

  at_seen : (k : K) (ks : List K) → list_any (λ x. same (say k) (say x)) ks ≡ list_any (is_at (cmp k)) ks
  at_seen k [] = refl
  at_seen k (x ∷ ks) = λ i. is_eq (sym (alike k x) i) || at_seen k ks i

  pub contains-seen : (ks : List K) (k : K) → set.contains (seen ks) (say k) ≡ list_any (is_at (cmp k)) ks
  contains-seen ks k = contains-from_list o (map say ks) (say k) ∙ any_seen (say k) ks ∙ at_seen k ks

  contains-said : (ks : List K) (q : N) → set.contains (seen ks) q ≡ list_any (λ k. same q (say k)) ks
  contains-said ks q = contains-from_list o (map say ks) q ∙ any_seen q ks

  any_inserted : (q : N) (k : K) (ks : List K) → list_any (λ x. same q (say x)) (insert_key cmp ks k) ≡ (same q (say k) || list_any (λ x. same q (say x)) ks)
  any_inserted q k [] = refl
  any_inserted q k (x ∷ ks) = by (any_inserted q k ks) (cmp k x) refl
    where
      twice : (a b c : Bool) → a ≡ b → (b || c) ≡ (a || (b || c))
      twice true b c e = ap (λ d. d || c) (sym e)
      twice false b c e = refl

      swapped : (a b c : Bool) → (a || (b || c)) ≡ (b || (a || c))
      swapped true true c = refl
      swapped true false c = refl
      swapped false b c = refl

      by : list_any (λ x. same q (say x)) (insert_key cmp ks k) ≡ (same q (say k) || list_any (λ x. same q (say x)) ks) → (o : Ordering) → cmp k x ≡ o
          → list_any (λ x. same q (say x)) (match_ordering o (k ∷ x ∷ ks) (x ∷ ks) (x ∷ insert_key cmp ks k)) ≡ (same q (say k) || (same q (say x) || list_any (λ x. same q (say x)) ks))
      by rest Less e = refl
      by rest Equal e = twice (same q (say k)) (same q (say x)) _ (ap (same q) (says_same k x (ap is_eq e)))
      by rest Greater e = ap (λ b. same q (say x) || b) rest ∙ swapped (same q (say x)) (same q (say k)) _

  pub insert-seen : (ks : List K) (k : K) → seen (insert_key cmp ks k) ≡ set.insert (seen ks) (say k)
  insert-seen ks k =
      same_set o apart _ _
      (λ q. contains-said (insert_key cmp ks k) q ∙ any_inserted q k ks ∙ ap (λ b. same q (say k) || b) (sym (contains-said ks q)) ∙ sym (contains-insert o (seen ks) (say k) q))

  -- a set without a key: no key that says the same, and the others as they were
  pub remove-seen : (old new : List K) (k : K) → list_any (is_at (cmp k)) new ≡ false → KeepsOthers (eq_by_cmp cmp) (is_at (cmp k)) old new → seen new ≡ set.remove (seen old) (say k)
  unfolding KeepsOthers
  remove-seen old new k gone keeps = same_set o apart _ _ (λ q. contains-said new q ∙ by q (same q (say k)) refl ∙ sym (contains-remove o (seen old) (say k) q))
    where
      is_test : (q : N) → IsKeyTest (eq_by_cmp cmp) (λ x. same q (say x))
      is_test q = λ x y e. ap (λ t. same t (say y)) (tells q (say x) e) ∙ ap is_eq (sym (alike x y))

      is_apart : (q : N) → same q (say k) ≡ false → AreApart (is_at (cmp k)) (λ x. same q (say x))
      is_apart q e = λ y t. ap (same q) (sym (says_same k y t)) ∙ e

      by : (q : N) (b : Bool) → same q (say k) ≡ b → list_any (λ x. same q (say x)) new ≡ (not b && set.contains (seen old) q)
      by q true e = ap (λ t. list_any (λ x. same t (say x)) new) (tells q (say k) e) ∙ at_seen k new ∙ gone
      by q false e = keeps (λ x. same q (say x)) (is_test q) (is_apart q e) ∙ sym (contains-said old q)

  -- the same for any query, by what it looks for
  at_query : (query : K → Ordering) (t : N) → ((a : K) → query a ≡ R t (say a)) → (ks : List K) → list_any (λ x. same t (say x)) ks ≡ list_any (is_at query) ks
  at_query query t fits [] = refl
  at_query query t fits (x ∷ ks) = λ i. is_eq (sym (fits x) i) || at_query query t fits ks i

  pub remove-by : (query : K → Ordering) (t : N) → ((a : K) → query a ≡ R t (say a)) → (old new : List K) → list_any (is_at query) new ≡ false → KeepsOthers (eq_by_cmp cmp) (is_at query) old new → seen new ≡ set.remove (seen old) t
  unfolding KeepsOthers
  remove-by query t fits old new gone keeps = same_set o apart _ _ (λ q. contains-said new q ∙ by q (same q t) refl ∙ sym (contains-remove o (seen old) t q))
    where
      is_test : (q : N) → IsKeyTest (eq_by_cmp cmp) (λ x. same q (say x))
      is_test q = λ x y e. ap (λ t. same t (say y)) (tells q (say x) e) ∙ ap is_eq (sym (alike x y))

      is_apart : (q : N) → same q t ≡ false → AreApart (is_at query) (λ x. same q (say x))
      is_apart q e = λ y f. ap (same q) (sym (tells t (say y) (ap is_eq (sym (fits y)) ∙ f))) ∙ e

      by : (q : N) (b : Bool) → same q t ≡ b → list_any (λ x. same q (say x)) new ≡ (not b && set.contains (seen old) q)
      by q true e = ap (λ t. list_any (λ x. same t (say x)) new) (tells q t e) ∙ at_query query t fits new ∙ gone
      by q false e = keeps (λ x. same q (say x)) (is_test q) (is_apart q e) ∙ sym (contains-said old q)

  -- a set has no members only where there are no keys
  pub has_none : (ks : List K) → set.len (seen ks) ≡ 0 → ks ≡ []
  has_none [] h = refl
  has_none (k ∷ ks) h =
      absurd (true≢false (sym (contains-insert o (seen ks) (say k) (say k) ∙ ap (λ b. b || set.contains (seen ks) (say k)) (ap is_eq (tied_itself o (say k))))
      ∙ ap (λ s. set.contains s (say k)) (empty_of_len (seen (k ∷ ks)) h) ∙ contains-empty R (say k)))
