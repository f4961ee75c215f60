-- Entries in order stay so, and a chunk that is found by a key lies between what is below the key and what is above.
use Rattle.std.proofs.Common.{suc, zero, ◌≡◌, ◌++◌, ◌<◌, ℕ, List, [], ◌∷◌, Bool, true, false, cond, is_eq, is_lt, Ordering, Less, Equal, Greater, refl, sym, ap, ◌∙◌, take, drop, subst, arith, None}
use Rattle.std.specs.Cmp.{IsTotalOrder}
use Rattle.std.specs.List.{AllByRecursion}
use Rattle.std.specs.List.Sorted.{IsStrictlySortedBy}
use Rattle.std.specs.Map.{keys_of, lookup, remove_entry}
use Rattle.std.specs.Ordering.{match_ordering, ordering_reverse}
use Rattle.std.specs.BTreeMap.{is_at}
use Rattle.std.proofs.lemmas.List.{take-append-drop}
use Rattle.std.proofs.lemmas.Grind.{flat_map-append}
use Rattle.shared_map.specs.Entries.{put_entry}
use Rattle.shared_map.specs.Parts.{AllAre, BeginsAt, starts_after, joined, AreFilled, IsSound}
use Rattle.shared_map.proofs.Between.{found_after, found_none, remove_after, remove_none}

pub joined_split : {A : Type 0} {B : Type 0} (ps : List (List (A × B))) (i : ℕ) → joined ps ≡ joined (take i ps) ++ joined (drop i ps)
joined_split ps i = ap joined (sym (take-append-drop i ps)) ∙ flat_map-append (λ p. p) (take i ps) (drop i ps)

pub filled_drop : {A : Type 0} {B : Type 0} (ps : List (List (A × B))) (i : ℕ) → AreFilled ps → AreFilled (drop i ps)
filled_drop [] zero f = f
filled_drop [] (suc i) f = f
filled_drop (p ∷ ps) zero f = f
filled_drop (p ∷ ps) (suc i) f = filled_drop ps i f.1

pub filled_take : {A : Type 0} {B : Type 0} (ps : List (List (A × B))) (i : ℕ) → AreFilled ps → AreFilled (take i ps)
filled_take [] zero f = tt
filled_take [] (suc i) f = tt
filled_take (p ∷ ps) zero f = tt
filled_take (p ∷ ps) (suc i) f = (f.0, filled_take ps i f.1)

pub filled_append : {A : Type 0} {B : Type 0} (ps qs : List (List (A × B))) → AreFilled ps → AreFilled qs → AreFilled (ps ++ qs)
filled_append [] qs f g = g
filled_append (p ∷ ps) qs f g = (f.0, filled_append ps qs f.1 g)

less : (r : Ordering) → is_lt r ≡ true → r ≡ Less
less Less is = refl
less Equal is = cc
less Greater is = cc

module _ {K : Type 0} {R : K → K → Ordering} (o : IsTotalOrder R) where
  turned : (a b : K) (r : Ordering) → R a b ≡ r → R b a ≡ ordering_reverse r
  turned a b r is = o.antisymm b a ∙ ap ordering_reverse is

  -- a key that is not below an entry is above all before the entry
  over : (k a e : K) (r : Ordering) → R k e ≡ r → is_lt r ≡ false → R a e ≡ Less → R k a ≡ Greater
  over k a e Less is not_less under = cc
  over k a e Equal is not_less under = o.congr k e a is ∙ turned a e Less under
  over k a e Greater is not_less under = turned a k Less (o.trans a e k under (turned k e Greater is))

module _ {K X : Type 0} {R : K → K → Ordering} (o : IsTotalOrder R) where
  abbrev Below : K → List (K × X) → Type 0
  Below k es = AllByRecursion (λ (y : K). R k y ≡ Less) (keys_of es)

  abbrev pub InOrder : List (K × X) → Type 0
  InOrder es = IsStrictlySortedBy R (keys_of es)

  below_less : (q a : K) (es : List (K × X)) → R q a ≡ Less → Below a es → Below q es
  below_less q a [] is b = tt
  below_less q a (e ∷ es) is b = (o.trans q a e.0 is b.0, below_less q a es is b.1)

  below_same : (q a : K) (es : List (K × X)) → R q a ≡ Equal → Below a es → Below q es
  below_same q a [] is b = tt
  below_same q a (e ∷ es) is b = (o.congr q a e.0 is ∙ b.0, below_same q a es is b.1)

  put_below : (k : K) (es : List (K × X)) (e : K × X) → Below k es → R k e.0 ≡ Less → Below k (put_entry R es e)
  put_below k [] e b is = (is, tt)
  put_below k (f ∷ fs) e b is = by (R e.0 f.0) (put_below k fs e b.1 is)
    where
      by : (r : Ordering) → Below k (put_entry R fs e) → Below k (match_ordering r (e ∷ f ∷ fs) (e ∷ fs) (f ∷ put_entry R fs e))
      by Less h = (is, b)
      by Equal h = (is, b.1)
      by Greater h = (b.0, h)

  pub put_sorted : (es : List (K × X)) (e : K × X) → InOrder es → InOrder (put_entry R es e)
  unfolding IsStrictlySortedBy
  put_sorted [] e s = (tt, tt)
  put_sorted (f ∷ fs) e s = by (R e.0 f.0) refl (put_sorted fs e s.1)
    where
      by : (r : Ordering) → R e.0 f.0 ≡ r → InOrder (put_entry R fs e) → InOrder (match_ordering r (e ∷ f ∷ fs) (e ∷ fs) (f ∷ put_entry R fs e))
      by Less is h = ((is, below_less e.0 f.0 fs is s.0), s)
      by Equal is h = (below_same e.0 f.0 fs is s.0, s.1)
      by Greater is h = (put_below f.0 fs e s.0 (turned o e.0 f.0 Greater is), h)

  remove_below : (q k : K) (es : List (K × X)) → Below q es → Below q (remove_entry (is_at (R k)) es)
  remove_below q k [] b = b
  remove_below q k (f ∷ fs) b = by (is_eq (R k f.0)) (remove_below q k fs b.1)
    where
      by : (t : Bool) → Below q (remove_entry (is_at (R k)) fs) → Below q (cond t fs (f ∷ remove_entry (is_at (R k)) fs))
      by true h = b.1
      by false h = (b.0, h)

  pub remove_sorted : (k : K) (es : List (K × X)) → InOrder es → InOrder (remove_entry (is_at (R k)) es)
  unfolding IsStrictlySortedBy
  remove_sorted k [] s = s
  remove_sorted k (f ∷ fs) s = by (is_eq (R k f.0)) (remove_sorted k fs s.1)
    where
      by : (t : Bool) → InOrder (remove_entry (is_at (R k)) fs) → InOrder (cond t fs (f ∷ remove_entry (is_at (R k)) fs))
      by true h = s.1
      by false h = (remove_below f.0 k fs s.0, h)

  pub sorted_back : (A B : List (K × X)) → InOrder (A ++ B) → InOrder B
  unfolding IsStrictlySortedBy
  sorted_back [] B s = s
  sorted_back (a ∷ A) B s = sorted_back A B s.1

  below_front : (k : K) (A B : List (K × X)) → Below k (A ++ B) → Below k A
  below_front k [] B b = tt
  below_front k (a ∷ A) B b = (b.0, below_front k A B b.1)

  pub sorted_front : (A B : List (K × X)) → InOrder (A ++ B) → InOrder A
  unfolding IsStrictlySortedBy
  sorted_front [] B s = tt
  sorted_front (a ∷ A) B s = (below_front a.0 A B s.0, sorted_front A B s.1)

  below_at : (k : K) (A : List (K × X)) (e : K × X) (D : List (K × X)) → Below k (A ++ (e ∷ D)) → R k e.0 ≡ Less
  below_at k [] e D b = b.0
  below_at k (a ∷ A) e D b = below_at k A e D b.1

  above_front : (k : K) (A : List (K × X)) (e : K × X) (D : List (K × X)) → InOrder (A ++ (e ∷ D)) → is_lt (R k e.0) ≡ false → AllAre R Greater k A
  unfolding IsStrictlySortedBy
  above_front k [] e D s is = tt
  above_front k (a ∷ A) e D s is = (over o k a.0 e.0 (R k e.0) refl is (below_at a.0 A e D s.0), above_front k A e D s.1 is)

  -- a key that is not below the entry at a place is above all before it
  pub above_at : (k : K) (es : List (K × X)) (i : ℕ) (x : K × X) (rest : List (K × X)) → InOrder es → drop i es ≡ x ∷ rest → is_lt (R k x.0) ≡ false → AllAre R Greater k (take i es)
  above_at k es i x rest s here is = above_front k (take i es) x rest (subst InOrder (sym (take-append-drop i es) ∙ ap (λ l. take i es ++ l) here) s) is

  all_below : (k : K) (es : List (K × X)) → Below k es → AllAre R Less k es
  all_below k [] b = tt
  all_below k (e ∷ es) b = (b.0, all_below k es b.1)

  pub below_back : (k : K) (e : K × X) (es : List (K × X)) → InOrder (e ∷ es) → R k e.0 ≡ Less → AllAre R Less k (e ∷ es)
  unfolding IsStrictlySortedBy
  below_back k e es s is = (is, all_below k es (below_less k e.0 es is s.0))

  -- ---- the chunk that is found

  pub front_by : (k : K) (A : List (K × X)) (qs : List (List (K × X))) → InOrder (A ++ joined qs) → AreFilled qs → starts_after R k qs ≡ false → AllAre R Greater k A
  front_by k A [] s f is = cc
  front_by k A ([] ∷ qs) s f is = absurd (omega (arith, f.0))
  front_by k A ((e ∷ es) ∷ qs) s f is = above_front k A e (es ++ joined qs) s is

  pub all_above : (k : K) (ps : List (List (K × X))) (i : ℕ) → InOrder (joined ps) → AreFilled ps → (0 < i → starts_after R k (drop i ps) ≡ false) → AllAre R Greater k (joined (take i ps))
  all_above k ps zero s f first = tt
  all_above k ps (suc i) s f first = front_by k (joined (take (suc i) ps)) (drop (suc i) ps) (subst InOrder (joined_split ps (suc i)) s) (filled_drop ps (suc i) f) (first (omega arith))

  back_by : (k : K) (qs : List (List (K × X))) → InOrder (joined qs) → starts_after R k qs ≡ true → AllAre R Less k (joined qs)
  back_by k [] s is = tt
  back_by k ([] ∷ qs) s is = cc
  back_by k ((e ∷ es) ∷ qs) s is = below_back k e (es ++ joined qs) s (less (R k e.0) is)

  pub all_under : (k : K) (ps : List (List (K × X))) (i : ℕ) → InOrder (joined ps) → starts_after R k (drop i ps) ≡ true → AllAre R Less k (joined (drop i ps))
  all_under k ps i s is = back_by k (drop i ps) (sorted_back (joined (take i ps)) (joined (drop i ps)) (subst InOrder (joined_split ps i) s)) is

  -- nothing is found where a place has nothing
  begins_under : (k : K) (B : List (K × X)) → InOrder B → BeginsAt R k false B → AllAre R Less k B
  begins_under k [] s is = tt
  begins_under k (e ∷ es) s is = below_back k e es s is

  pub found_nowhere : (k : K) (es : List (K × X)) (at : ℕ) → InOrder es → AllAre R Greater k (take at es) → BeginsAt R k false (drop at es) → lookup (is_at (R k)) es ≡ None
  found_nowhere k es at s before ahead =
      ap (lookup (is_at (R k))) (sym (take-append-drop at es)) ∙ found_after R k (take at es) (drop at es) before
      ∙ found_none R k (drop at es) (begins_under k (drop at es) (sorted_back (take at es) (drop at es) (subst InOrder (sym (take-append-drop at es)) s)) ahead)

  pub removed_nowhere : (k : K) (es : List (K × X)) (at : ℕ) → InOrder es → AllAre R Greater k (take at es) → BeginsAt R k false (drop at es) → remove_entry (is_at (R k)) es ≡ es
  removed_nowhere k es at s before ahead =
      ap (remove_entry (is_at (R k))) (sym (take-append-drop at es)) ∙ remove_after R k (take at es) (drop at es) before
      ∙ ap (λ l. take at es ++ l) (remove_none R k (drop at es) (begins_under k (drop at es) (sorted_back (take at es) (drop at es) (subst InOrder (sym (take-append-drop at es)) s)) ahead))
      ∙ take-append-drop at es

  one_sound : (x : K × X) → IsSound R ((x ∷ []) ∷ []) 1
  unfolding IsStrictlySortedBy
  one_sound x = ((tt, tt), (omega arith, tt), refl)

  pub sound_one : (ps : List (List (K × X))) (x : K × X) → ps ≡ (x ∷ []) ∷ [] → IsSound R ps 1
  sound_one ps x is = subst (λ ps. IsSound R ps 1) (sym is) (one_sound x)

  pub sound_none : (ps : List (List (K × X))) → ps ≡ [] → IsSound R ps 0
  unfolding IsStrictlySortedBy
  sound_none ps is = subst (λ (ps : List (List (K × X))). IsSound R ps 0) (sym is) (tt, tt, refl)
