-- The sets of a Deployment, however they stand: their keys differ, and sums over them stay.
use Rattle.std.proofs.Common.{◌≡◌, ℕ, ◌+◌, [], ◌∷◌, map, filter, find, Bool, true, false, cond, Option, Some, None, Ordering, Less, Equal, Greater, refl, ap, ◌∙◌, if◌then◌else◌, arith}
use Rattle.std.specs.List.{AllByRecursion}
use Rattle.std.specs.List.Sorted.{IsStrictlySortedBy}
use Rattle.std.specs.Map.{keys_of}
use Rattle.std.specs.Ordering.{is_eq, is_le, ordering_reverse}
use Rattle.serde_json.specs.Data.{Data}
use Rattle.spec_api.proofs.PutLaws.{name_cmp_total}
use Rattle.spec_api.specs.History.{Entries}
use Rattle.spec_api.specs.Keys.{Key, key_cmp, is_same_key}
use Rattle.spec_reconcile.specs.Deployments.{and_old, has_its_template, managed, age_cmp, rollout, sets, sets_of, without_first}
use Rattle.spec_reconcile.specs.Orders.{placed, in_order}
use Rattle.spec_reconcile.specs.Rollouts.{total}
use Rattle.spec_laws.proofs.DeploymentPlans.{all_kept, all_ordered, all_placed}

-- ---- keys that differ

abbrev pub Differs : Key → Key × Data → Type 0
Differs k s = is_same_key k s.0 ≡ false

-- no key stands twice
abbrev pub Apart : Entries → Type 0
Apart [] = Unit {0}
Apart (s ∷ ss) = AllByRecursion (Differs s.0) ss × Apart ss

turned : (r : Ordering) → is_eq (ordering_reverse r) ≡ is_eq r
turned Less = refl
turned Equal = refl
turned Greater = refl

pub same_back : (j k : Key) → is_same_key j k ≡ is_same_key k j
same_back j k = ap is_eq (name_cmp_total.antisymm j k) ∙ turned (key_cmp k j)

above_differ : (k : Key) (ss : Entries) → AllByRecursion (λ y. key_cmp k y ≡ Less) (keys_of ss) → AllByRecursion (Differs k) ss
above_differ k [] h = tt
above_differ k (s ∷ ss) h = (ap is_eq h.0, above_differ k ss h.1)

pub apart_sorted : (ss : Entries) → IsStrictlySortedBy key_cmp (keys_of ss) → Apart ss
unfolding IsStrictlySortedBy
apart_sorted [] h = tt
apart_sorted (s ∷ ss) h = (above_differ s.0 ss h.0, apart_sorted ss h.1)

apart_kept-at : (b : Bool) (s : Key × Data) (ss : Entries) → AllByRecursion (Differs s.0) ss → Apart ss → Apart (cond b (s ∷ ss) ss)
apart_kept-at true s ss h k = (h, k)
apart_kept-at false s ss h k = k

pub apart_kept : (t : Key × Data → Bool) (ss : Entries) → Apart ss → Apart (filter t ss)
apart_kept t [] h = tt
apart_kept t (s ∷ ss) h = apart_kept-at (t s) s (filter t ss) (all_kept (Differs s.0) t ss h.0) (apart_kept t ss h.1)

apart_placed-at : (b : Bool) (xs ys : Entries) → Apart xs → Apart ys → Apart (if b then xs else ys)
apart_placed-at true xs ys h k = h
apart_placed-at false xs ys h k = k

apart_placed : (cmp : Key × Data → Key × Data → Ordering) (a : Key × Data) (bs : Entries) → AllByRecursion (Differs a.0) bs → Apart bs → Apart (placed cmp a bs)
apart_placed cmp a [] h k = (tt, tt)
apart_placed cmp a (b ∷ bs) h k =
    apart_placed-at (is_le (cmp a b)) (a ∷ b ∷ bs) (b ∷ placed cmp a bs) (h, k)
    (all_placed (Differs b.0) cmp a bs (same_back b.0 a.0 ∙ h.0) k.0, apart_placed cmp a bs h.1 k.1)

apart_ordered : (cmp : Key × Data → Key × Data → Ordering) (ss : Entries) → Apart ss → Apart (in_order cmp ss)
apart_ordered cmp [] h = tt
apart_ordered cmp (s ∷ ss) h = apart_placed cmp s (in_order cmp ss) (all_ordered (Differs s.0) cmp ss h.0) (apart_ordered cmp ss h.1)

-- ---- the first that passes a test goes first

all_behind : (P : Key × Data → Type 0) (o : Option (Key × Data)) (a : Key × Data) (ss : Entries) → P a → AllByRecursion P (and_old o ss) → AllByRecursion P (and_old o (a ∷ ss))
all_behind P None a ss p h = (p, h)
all_behind P (Some x) a ss p h = (h.0, (p, h.1))

all_split-at : (P : Key × Data → Type 0) (t : Key × Data → Bool) (b : Bool) (a : Key × Data) (ss : Entries) → AllByRecursion P (a ∷ ss) → AllByRecursion P (and_old (find t ss) (without_first t ss))
    → AllByRecursion P (and_old (cond b (Some a) (find t ss)) (if b then ss else a ∷ without_first t ss))
all_split-at P t true a ss h later = h
all_split-at P t false a ss h later = all_behind P (find t ss) a (without_first t ss) h.0 later

all_split : (P : Key × Data → Type 0) (t : Key × Data → Bool) (ss : Entries) → AllByRecursion P ss → AllByRecursion P (and_old (find t ss) (without_first t ss))
all_split P t [] h = tt
all_split P t (a ∷ ss) h = all_split-at P t (t a) a ss h (all_split P t ss h.1)

apart_behind : (o : Option (Key × Data)) (a : Key × Data) (ss : Entries) → AllByRecursion (Differs a.0) (and_old o ss) → Apart (and_old o ss) → Apart (and_old o (a ∷ ss))
apart_behind None a ss h k = (h, k)
apart_behind (Some x) a ss h k = ((same_back x.0 a.0 ∙ h.0, k.0), (h.1, k.1))

apart_split-at : (t : Key × Data → Bool) (b : Bool) (a : Key × Data) (ss : Entries) → Apart (a ∷ ss) → Apart (and_old (find t ss) (without_first t ss))
    → Apart (and_old (cond b (Some a) (find t ss)) (if b then ss else a ∷ without_first t ss))
apart_split-at t true a ss h later = h
apart_split-at t false a ss h later = apart_behind (find t ss) a (without_first t ss) (all_split (Differs a.0) t ss h.0) later

apart_split : (t : Key × Data → Bool) (ss : Entries) → Apart ss → Apart (and_old (find t ss) (without_first t ss))
apart_split t [] h = tt
apart_split t (a ∷ ss) h = apart_split-at t (t a) a ss h (apart_split t ss h.1)

pub apart_sets : (k : Key) (d : Data) (ms : Entries) → Apart (managed k.namespace d ms) → Apart (sets (rollout k d ms))
apart_sets k d ms h = apart_split (has_its_template d) (sets_of k d ms) (apart_ordered age_cmp (managed k.namespace d ms) h)

pub all_sets : (P : Key × Data → Type 0) (k : Key) (d : Data) (ms : Entries) → AllByRecursion P (managed k.namespace d ms) → AllByRecursion P (sets (rollout k d ms))
all_sets P k d ms h = all_split P (has_its_template d) (sets_of k d ms) (all_ordered P age_cmp (managed k.namespace d ms) h)

-- ---- sums

module _ (f : Key × Data → ℕ) where
  sum_placed-at : (b : Bool) (a s : Key × Data) (ss bs : Entries) → total (map f bs) ≡ f a + total (map f ss) → total (map f (if b then a ∷ s ∷ ss else s ∷ bs)) ≡ f a + (f s + total (map f ss))
  sum_placed-at true a s ss bs e = refl
  sum_placed-at false a s ss bs e = omega arith

  sum_placed : (cmp : Key × Data → Key × Data → Ordering) (a : Key × Data) (ss : Entries) → total (map f (placed cmp a ss)) ≡ f a + total (map f ss)
  sum_placed cmp a [] = refl
  sum_placed cmp a (s ∷ ss) = sum_placed-at (is_le (cmp a s)) a s ss (placed cmp a ss) (sum_placed cmp a ss)

  sum_ordered : (cmp : Key × Data → Key × Data → Ordering) (ss : Entries) → total (map f (in_order cmp ss)) ≡ total (map f ss)
  sum_ordered cmp [] = refl
  sum_ordered cmp (s ∷ ss) = sum_placed cmp s (in_order cmp ss) ∙ ap (λ n. f s + n) (sum_ordered cmp ss)

  sum_behind : (o : Option (Key × Data)) (a : Key × Data) (ss : Entries) → total (map f (and_old o (a ∷ ss))) ≡ f a + total (map f (and_old o ss))
  sum_behind None a ss = refl
  sum_behind (Some x) a ss = omega arith

  sum_split-at : (t : Key × Data → Bool) (b : Bool) (a : Key × Data) (ss : Entries) → total (map f (and_old (find t ss) (without_first t ss))) ≡ total (map f ss)
      → total (map f (and_old (cond b (Some a) (find t ss)) (if b then ss else a ∷ without_first t ss))) ≡ f a + total (map f ss)
  sum_split-at t true a ss e = refl
  sum_split-at t false a ss e = sum_behind (find t ss) a (without_first t ss) ∙ ap (λ n. f a + n) e

  sum_split : (t : Key × Data → Bool) (ss : Entries) → total (map f (and_old (find t ss) (without_first t ss))) ≡ total (map f ss)
  sum_split t [] = refl
  sum_split t (a ∷ ss) = sum_split-at t (t a) a ss (sum_split t ss)

  -- over its sets, the new one first, as over those that a Deployment controls
  pub sum_sets : (k : Key) (d : Data) (ms : Entries) → total (map f (sets (rollout k d ms))) ≡ total (map f (managed k.namespace d ms))
  sum_sets k d ms = sum_split (has_its_template d) (sets_of k d ms) ∙ sum_ordered age_cmp (managed k.namespace d ms)
