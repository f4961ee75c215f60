-- What a look-up, an insert and a removal do to a map, by what its keys say.
use Rattle.std.proofs.Common.{◌≡◌, refl, sym, ap, ◌∙◌, List, [], ◌∷◌, Bool, true, false, cond, Option, Some, None, option_map, Ordering, Less, Equal, Greater}
use Rattle.std.specs.Cmp.{Equal-is, IsTotalOrder}
use Rattle.std.specs.Ordering.{eq_by_cmp, is_eq, match_ordering}
use Rattle.std.specs.BTreeMap.{is_at, insert_entry}
use Rattle.std.specs.Map.{lookup, KeepsOthers, IsKeyTest, AreApart}
use Rattle.std.specs.FinMap as map_of
use Rattle.std.specs.FinMap.{IsAntisymmetric, find, get-from_entries, get-insert, get-remove, same_map}
use Rattle.object_keys.specs.Seen.{seen_entries, seen_map}

module _ {K N X Y : Type 0} (R : N → N → Ordering) (o : IsTotalOrder R) (apart : IsAntisymmetric R) (say : K → N) (cmp : K → K → Ordering) (alike : (a b : K) → cmp a b ≡ R (say a) (say b)) (h : X → Y) where
  abbrev seen : List (K × X) → map_of.FinMap R Y
  seen es = seen_map R say h es

  abbrev same : N → N → Bool
  same = eq_by_cmp R

  tells : (q t : N) → same q t ≡ true → q ≡ t
  tells q t e = apart q t ((Equal-is (R q t)).0 e)

  -- keys that compare equal say the same
  says_same : (a b : K) → is_eq (cmp a b) ≡ true → say a ≡ say b
  says_same a b e = tells _ _ (ap is_eq (sym (alike a b)) ∙ e)

  -- what is found under what a key says
  abbrev under : N → List (K × X) → Option Y
  under q es = find R q (seen_entries say h es)

  under_key : (k : K) (es : List (K × X)) → under (say k) es ≡ option_map h (lookup (is_at (cmp k)) es)
  under_key k [] = refl
  under_key k (e ∷ es) = (λ i. cond (is_eq (sym (alike k e.0) i)) (Some (h e.1)) (under_key k es i)) ∙ by (is_at (cmp k) e.0)
    where
      by : (b : Bool) → cond b (Some (h e.1)) (option_map h (lookup (is_at (cmp k)) es)) ≡ option_map h (cond b (Some e.1) (lookup (is_at (cmp k)) es))
      by true = refl
      by false = refl

  pub get-seen : (es : List (K × X)) (k : K) → map_of.get (seen es) (say k) ≡ option_map h (lookup (is_at (cmp k)) es)
  get-seen es k = get-from_entries o (seen_entries say h es) (say k) ∙ under_key k es

  under_inserted : (q : N) (k : K) (v : X) (es : List (K × X)) → under q (insert_entry cmp es k v) ≡ cond (same q (say k)) (Some (h v)) (under q es)
  under_inserted q k v [] = refl
  under_inserted q k v (e ∷ es) = by (under_inserted q k v es) (cmp k e.0) refl
    where
      twice : (a b : Bool) (o : Option Y) → a ≡ b → cond b (Some (h v)) o ≡ cond a (Some (h v)) (cond b (Some (h e.1)) o)
      twice true b o t = ap (λ c. cond c (Some (h v)) o) (sym t)
      twice false b o t = ap (λ c. cond c (Some (h v)) o) (sym t) ∙ ap (λ c. cond c (Some (h e.1)) o) t

      swapped : (a b : Bool) (o : Option Y) → (a ≡ true → b ≡ false) → cond b (Some (h e.1)) (cond a (Some (h v)) o) ≡ cond a (Some (h v)) (cond b (Some (h e.1)) o)
      swapped true b o apart = ap (λ c. cond c (Some (h e.1)) (Some (h v))) (apart refl)
      swapped false b o apart = refl

      by : under q (insert_entry cmp es k v) ≡ cond (same q (say k)) (Some (h v)) (under q es) → (o : Ordering) → cmp k e.0 ≡ o
          → under q (match_ordering o ((k, v) ∷ e ∷ es) ((e.0, v) ∷ es) (e ∷ insert_entry cmp es k v)) ≡ cond (same q (say k)) (Some (h v)) (cond (same q (say e.0)) (Some (h e.1)) (under q es))
      by rest Less f = refl
      by rest Equal f = twice (same q (say k)) (same q (say e.0)) _ (ap (same q) (says_same k e.0 (ap is_eq f)))
      by rest Greater f =
          ap (cond (same q (say e.0)) (Some (h e.1))) rest
          ∙ swapped (same q (say k)) (same q (say e.0)) _ (λ t. ap (λ s. same s (say e.0)) (tells q (say k) t) ∙ ap is_eq (sym (alike k e.0) ∙ f))

  pub insert-seen : (es : List (K × X)) (k : K) (v : X) → seen (insert_entry cmp es k v) ≡ map_of.insert (seen es) (say k) (h v)
  insert-seen es k v =
      same_map o apart _ _
      (λ q. get-from_entries o (seen_entries say h (insert_entry cmp es k v)) q ∙ under_inserted q k v es ∙ ap (cond (same q (say k)) (Some (h v))) (sym (get-from_entries o (seen_entries say h es) q)) ∙ sym (get-insert o (seen es) (say k) (h v) q))

  under_test : (q : N) (es : List (K × X)) → under q es ≡ option_map h (lookup (λ x. same q (say x)) es)
  under_test q [] = refl
  under_test q (e ∷ es) = ap (cond (same q (say e.0)) (Some (h e.1))) (under_test q es) ∙ by (same q (say e.0))
    where
      by : (b : Bool) → cond b (Some (h e.1)) (option_map h (lookup (λ x. same q (say x)) es)) ≡ option_map h (cond b (Some e.1) (lookup (λ x. same q (say x)) es))
      by true = refl
      by false = refl

  -- a map without a key: nothing under what it says, and the others as they were
  pub remove-seen : (old new : List (K × X)) (k : K) → lookup (is_at (cmp k)) new ≡ None → KeepsOthers (eq_by_cmp cmp) (is_at (cmp k)) old new → seen new ≡ map_of.remove (seen old) (say k)
  unfolding KeepsOthers
  remove-seen old new k gone keeps =
      same_map o apart _ _ (λ q. get-from_entries o (seen_entries say h new) q ∙ by q (same q (say k)) refl ∙ sym (get-remove o (seen old) (say k) q))
    where
      is_test : (q : N) → IsKeyTest (eq_by_cmp cmp) (λ x. same q (say x))
      is_test q = λ x y e. ap (λ t. same t (say y)) (tells q (say x) e) ∙ ap is_eq (sym (alike x y))

      is_apart : (q : N) → same q (say k) ≡ false → AreApart (is_at (cmp k)) (λ x. same q (say x))
      is_apart q e = λ y t. ap (same q) (sym (says_same k y t)) ∙ e

      by : (q : N) (b : Bool) → same q (say k) ≡ b → under q new ≡ cond b None (map_of.get (seen old) q)
      by q true e = ap (λ t. under t new) (tells q (say k) e) ∙ under_key k new ∙ ap (option_map h) gone
      by q false e =
          under_test q new ∙ ap (option_map h) (keeps (λ x. same q (say x)) (is_test q) (is_apart q e)) ∙ sym (under_test q old) ∙ sym (get-from_entries o (seen_entries say h old) q)

  -- the same for any query, by what it looks for
  under_query : (query : K → Ordering) (t : N) → ((a : K) → query a ≡ R t (say a)) → (es : List (K × X)) → under t es ≡ option_map h (lookup (is_at query) es)
  under_query query t fits [] = refl
  under_query query t fits (e ∷ es) = (λ i. cond (is_eq (sym (fits e.0) i)) (Some (h e.1)) (under_query query t fits es i)) ∙ by (is_at query e.0)
    where
      by : (b : Bool) → cond b (Some (h e.1)) (option_map h (lookup (is_at query) es)) ≡ option_map h (cond b (Some e.1) (lookup (is_at query) es))
      by true = refl
      by false = refl

  pub get-by : (query : K → Ordering) (t : N) → ((a : K) → query a ≡ R t (say a)) → (es : List (K × X)) → map_of.get (seen es) t ≡ option_map h (lookup (is_at query) es)
  get-by query t fits es = get-from_entries o (seen_entries say h es) t ∙ under_query query t fits es

  -- a map with w at what the query looks for, and the others as they were
  pub update-by : (query : K → Ordering) (t : N) → ((a : K) → query a ≡ R t (say a)) → (old new : List (K × X)) (w : Option X) → lookup (is_at query) new ≡ w → KeepsOthers (eq_by_cmp cmp) (is_at query) old new
      → (q : N) → map_of.get (seen new) q ≡ cond (same q t) (option_map h w) (map_of.get (seen old) q)
  unfolding KeepsOthers
  update-by query t fits old new w is keeps q = get-from_entries o (seen_entries say h new) q ∙ by (same q t) refl
    where
      is_test : IsKeyTest (eq_by_cmp cmp) (λ x. same q (say x))
      is_test = λ x y e. ap (λ t. same t (say y)) (tells q (say x) e) ∙ ap is_eq (sym (alike x y))

      is_apart : same q t ≡ false → AreApart (is_at query) (λ x. same q (say x))
      is_apart e = λ y f. ap (same q) (sym (tells t (say y) (ap is_eq (sym (fits y)) ∙ f))) ∙ e

      by : (b : Bool) → same q t ≡ b → under q new ≡ cond b (option_map h w) (map_of.get (seen old) q)
      by true e = ap (λ t. under t new) (tells q t e) ∙ under_query query t fits new ∙ ap (option_map h) is
      by false e =
          under_test q new ∙ ap (option_map h) (keeps (λ x. same q (say x)) is_test (is_apart e)) ∙ sym (under_test q old) ∙ sym (get-from_entries o (seen_entries say h old) q)
