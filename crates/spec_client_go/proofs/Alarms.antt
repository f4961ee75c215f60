-- Delays as alarms: one for each key that is delayed, and which of them are due.
use Rattle.std.proofs.Common.{◌≡◌, refl, sym, ap, ◌∙◌, ℕ, ◌<◌, ◌∷◌, [], ◌&&◌, ◌||◌, Bool, true, false, not, cond, List, map, Option, Some, None, T, length, Ordering, Less, Equal, Greater, arith}
use mathlib.Core.Bool.{true≢false}
use Rattle.std.specs.Cmp.{Equal-is, IsTotalOrder, nat_cmp_total, on_total, then_total, tied_itself}
use Rattle.std.specs.List.{list_any, AllByRecursion}
use Rattle.std.specs.List.Sorted.{IsStrictlySortedBy}
use Rattle.std.specs.Ordering.{nat_cmp, eq_by_cmp, is_eq, is_lt, ordering_then}
use Rattle.std.specs.FinMap as map_of
use Rattle.std.specs.FinMap.{IsAntisymmetric, nat_cmp-IsAntisymmetric, find, put, is_sorted, entries_sorted, get-entries, get-insert, get-remove, same_map, entries-insert, len-entries, len-empty, get-from_entries}
use Rattle.std.specs.FinMap.Entries.{below_all, by_order}
use Rattle.std.specs.FinSet as set
use Rattle.std.specs.FinSet.{contains-from_list, contains-insert, contains-remove, same_set}
use Rattle.spec_client_go.proofs.WorkKeyOrder.{then_Equal}
use Rattle.spec_client_go.specs.KeyDelays.{KeyDelays, KeyAlarm, alarm_cmp, alarm_of, alarms, alarm_set}

abbrev pub same_at : ℕ → ℕ → Bool
same_at a b = is_eq (nat_cmp a b)

same_at_tells : (a b : ℕ) → same_at a b ≡ true → a ≡ b
same_at_tells a b e = nat_cmp-IsAntisymmetric a b ((Equal-is (nat_cmp a b)).0 e)

pub same_at_itself : (a : ℕ) → same_at a a ≡ true
same_at_itself a = ap is_eq (tied_itself nat_cmp_total a)

abbrev pub is_moment : Option ℕ → ℕ → Bool
is_moment None a = false
is_moment (Some b) a = same_at a b

pub tie_both : (x y : Ordering) → is_eq (ordering_then x y) ≡ (is_eq x && is_eq y)
tie_both Less y = refl
tie_both Equal y = refl
tie_both Greater y = refl

pub less_is_not_equal : (o : Ordering) (b : Bool) → T (is_lt o && b) → is_eq o ≡ false
less_is_not_equal Less b h = refl
less_is_not_equal Equal b h = absurd h
less_is_not_equal Greater b h = refl

pub second : (a b : Bool) → T (a && b) → T b
second true b h = h
second false b h = absurd h

pub first : (a b : Bool) → T (a && b) → T a
first true b h = tt
first false b h = absurd h

and_false : (a : Bool) → (a && false) ≡ false
and_false true = refl
and_false false = refl

and_true : (a : Bool) → ((a && true) || false) ≡ a
and_true true = refl
and_true false = refl

-- an entry whose key is below the others goes to the front
put_front : {K X : Type 0} (R : K → K → Ordering) (k : K) (v : X) (ks : List K) (x : K → X) → AllByRecursion (λ y. R k y ≡ Less) ks → put R k v (map (λ y. (y, x y)) ks) ≡ (k, v) ∷ map (λ y. (y, x y)) ks
put_front R k v [] x h = refl
put_front R k v (y ∷ ks) x h = ap (λ o. by_order o ((k, v) ∷ (y, x y) ∷ map (λ y. (y, x y)) ks) ((y, v) ∷ map (λ y. (y, x y)) ks) ((y, x y) ∷ put R k v (map (λ y. (y, x y)) ks))) h.0

-- a list as entries with nothing at each key
abbrev pub marked : {K : Type 0} → List K → List (K × Unit {0})
marked ks = map (λ y. (y, tt)) ks

no_entries : {K X : Type 0} (es : List (K × X)) → length es ≡ 0 → es ≡ []
no_entries [] h = refl
no_entries (e ∷ es) h = absurd (omega arith)

pub entries-empty : {K : Type 0} (R : K → K → Ordering) (X : Type 0) → map_of.entries (map_of.empty {X = X} {R = R}) ≡ []
entries-empty R X = no_entries (map_of.entries (map_of.empty {X = X} {R = R})) (sym (len-entries (map_of.empty {R = R})) ∙ len-empty R X)

as_entries : {K : Type 0} {R : K → K → Ordering} → IsTotalOrder R → (ks : List K) → IsStrictlySortedBy R ks → map_of.entries (map_of.from_entries {R = R} (marked ks)) ≡ marked ks
unfolding IsStrictlySortedBy
as_entries {R = R} o [] h = entries-empty R (Unit {0})
as_entries {R = R} o (k ∷ ks) h = entries-insert o (map_of.from_entries (marked ks)) k tt ∙ ap (put R k tt) (as_entries o ks h.1) ∙ put_front R k tt ks (λ y. tt) h.0

firsts : {K : Type 0} (ks : List K) → map (λ (e : K × Unit {0}). e.0) (marked ks) ≡ ks
firsts [] = refl
firsts (k ∷ ks) = ap (λ r. k ∷ r) (firsts ks)

abbrev pub mark : Bool → Option (Unit {0})
mark b = cond b (Some tt) None

module _ {N : Type 0} (R : N → N → Ordering) (total : IsTotalOrder R) (tells : IsAntisymmetric R) where
  pub alarm_total : IsTotalOrder (alarm_cmp R)
  alarm_total = then_total (on_total (λ (a : KeyAlarm N). a.at) nat_cmp_total) (on_total (λ (a : KeyAlarm N). a.key) total)

  pub alarm_tells : IsAntisymmetric (alarm_cmp R)
  alarm_tells a b e =
      let parts = then_Equal _ _ e in
      let m = nat_cmp-IsAntisymmetric a.at b.at parts.0 in
      let t = tells a.key b.key parts.1 in
      λ i. record { at = m i; key = t i }

  abbrev pub same : N → N → Bool
  same = eq_by_cmp R

  pub same_tells : (q t : N) → same q t ≡ true → q ≡ t
  same_tells q t e = tells q t ((Equal-is (R q t)).0 e)

  -- an alarm is that of a key and a moment where both are the same
  at_alarm : (a : KeyAlarm N) (k : N) (b : ℕ) → eq_by_cmp (alarm_cmp R) a (alarm_of (k, b)) ≡ (same_at a.at b && same a.key k)
  at_alarm a k b = tie_both _ _

  not_found : (k : N) (es : List (N × ℕ)) → T (below_all R k es) → find R k es ≡ None
  not_found k [] h = refl
  not_found k (e ∷ es) h =
      ap (λ b. cond b (Some e.1) (find R k es)) (less_is_not_equal (R k e.0) (below_all R k es) h)
      ∙ not_found k es (second (is_lt (R k e.0)) (below_all R k es) h)

  -- a key stands once among entries in order, so it has one alarm
  found_once : (a : KeyAlarm N) (es : List (N × ℕ)) → T (is_sorted R es) → list_any (eq_by_cmp (alarm_cmp R) a) (map alarm_of es) ≡ is_moment (find R a.key es) a.at
  found_once a [] h = refl
  found_once a (e ∷ es) h = (λ i. at_alarm a e.0 e.1 i || found_once a es (second (below_all R e.0 es) (is_sorted R es) h) i) ∙ by (same a.key e.0) refl
    where
      by : (t : Bool) → same a.key e.0 ≡ t → ((same_at a.at e.1 && t) || is_moment (find R a.key es) a.at) ≡ is_moment (cond t (Some e.1) (find R a.key es)) a.at
      by true is = ap (λ o. (same_at a.at e.1 && true) || is_moment o a.at) (ap (λ t. find R t es) (same_tells a.key e.0 is) ∙ not_found e.0 es (first (below_all R e.0 es) (is_sorted R es) h)) ∙ and_true (same_at a.at e.1)
      by false is = ap (λ b. b || is_moment (find R a.key es) a.at) (and_false (same_at a.at e.1))

  -- the alarms are those of the keys that are delayed, at their moments
  pub contains-alarms : (m : KeyDelays R) (a : KeyAlarm N) → set.contains (alarm_set m) a ≡ is_moment (map_of.get m a.key) a.at
  contains-alarms m a =
      contains-from_list alarm_total (map alarm_of (map_of.entries m)) a ∙ found_once a (map_of.entries m) (entries_sorted m) ∙ ap (λ x. is_moment x a.at) (sym (get-entries m a.key))

  pub moment_of : (m : KeyDelays R) (a : KeyAlarm N) → set.contains (alarm_set m) a ≡ true → map_of.get m a.key ≡ Some a.at
  moment_of m a e = by (map_of.get m a.key) (sym (contains-alarms m a) ∙ e)
    where
      by : (o : Option ℕ) → is_moment o a.at ≡ true → o ≡ Some a.at
      by None h = absurd (true≢false (sym h))
      by (Some b) h = ap Some (sym (same_at_tells a.at b h))

  module _ (m : KeyDelays R) (k : N) where
    at_key : (a : KeyAlarm N) (o : Option ℕ) → map_of.get m k ≡ o → same a.key k ≡ true → set.contains (alarm_set m) a ≡ is_moment o a.at
    at_key a o is e = contains-alarms m a ∙ ap (λ t. is_moment (map_of.get m t) a.at) (same_tells a.key k e) ∙ ap (λ o. is_moment o a.at) is

    -- a key that had no delay has one alarm more
    pub alarms_begun : (at : ℕ) → map_of.get m k ≡ None → alarm_set (map_of.insert m k at) ≡ set.insert (alarm_set m) (alarm_of (k, at))
    alarms_begun at none =
        same_set alarm_total alarm_tells _ _
        (λ a. contains-alarms (map_of.insert m k at) a ∙ ap (λ x. is_moment x a.at) (get-insert total m k at a.key) ∙ by a (same a.key k) refl ∙ ap (λ b. b || set.contains (alarm_set m) a) (sym (at_alarm a k at)) ∙ sym (contains-insert alarm_total (alarm_set m) (alarm_of (k, at)) a))
      where
        by : (a : KeyAlarm N) (t : Bool) → same a.key k ≡ t → is_moment (cond t (Some at) (map_of.get m a.key)) a.at ≡ ((same_at a.at at && t) || set.contains (alarm_set m) a)
        by a true e = sym (and_true (same_at a.at at)) ∙ ap (λ b. (same_at a.at at && true) || b) (sym (at_key a None none e))
        by a false e = sym (contains-alarms m a) ∙ ap (λ b. b || set.contains (alarm_set m) a) (sym (and_false (same_at a.at at)))

    -- a key whose delay is shortened has its new alarm in the place of the old one
    pub alarms_hastened : (at before : ℕ) → map_of.get m k ≡ Some before → at < before → alarm_set (map_of.insert m k at) ≡ set.remove (set.insert (alarm_set m) (alarm_of (k, at))) (alarm_of (k, before))
    alarms_hastened at before some h =
        same_set alarm_total alarm_tells _ _
        (λ a. contains-alarms (map_of.insert m k at) a
        ∙ ap (λ x. is_moment x a.at) (get-insert total m k at a.key)
        ∙ by a (same a.key k) refl
        ∙ (λ i. not (sym (at_alarm a k before) i) && (sym (at_alarm a k at) i || set.contains (alarm_set m) a))
        ∙ ap (λ b. not (eq_by_cmp (alarm_cmp R) a (alarm_of (k, before))) && b) (sym (contains-insert alarm_total (alarm_set m) (alarm_of (k, at)) a))
        ∙ sym (contains-remove alarm_total (set.insert (alarm_set m) (alarm_of (k, at))) (alarm_of (k, before)) a))
      where
        apart : (x y : Bool) → (x ≡ true → y ≡ true → ⊥) → x ≡ (not (y && true) && ((x && true) || y))
        apart true true no_both = absurd (no_both refl refl)
        apart true false no_both = refl
        apart false true no_both = refl
        apart false false no_both = refl

        elsewhere : (x y c : Bool) → c ≡ (not (y && false) && ((x && false) || c))
        elsewhere true true c = refl
        elsewhere true false c = refl
        elsewhere false true c = refl
        elsewhere false false c = refl

        by : (a : KeyAlarm N) (t : Bool) → same a.key k ≡ t → is_moment (cond t (Some at) (map_of.get m a.key)) a.at ≡ (not (same_at a.at before && t) && ((same_at a.at at && t) || set.contains (alarm_set m) a))
        by a true e =
            apart (same_at a.at at) (same_at a.at before) (λ x y. let p = same_at_tells a.at at x in let q = same_at_tells a.at before y in omega (arith, p, q, h))
            ∙ ap (λ b. not (same_at a.at before && true) && ((same_at a.at at && true) || b)) (sym (at_key a (Some before) some e))
        by a false e = sym (contains-alarms m a) ∙ elsewhere (same_at a.at at) (same_at a.at before) (set.contains (alarm_set m) a)

    -- a key whose delay is removed has no alarm
    pub alarms_removed : (before : ℕ) → map_of.get m k ≡ Some before → alarm_set (map_of.remove m k) ≡ set.remove (alarm_set m) (alarm_of (k, before))
    alarms_removed before some =
        same_set alarm_total alarm_tells _ _
        (λ a. contains-alarms (map_of.remove m k) a
        ∙ ap (λ x. is_moment x a.at) (get-remove total m k a.key)
        ∙ by a (same a.key k) refl
        ∙ ap (λ b. not b && set.contains (alarm_set m) a) (sym (at_alarm a k before))
        ∙ sym (contains-remove alarm_total (alarm_set m) (alarm_of (k, before)) a))
      where
        gone : (y : Bool) → false ≡ (not (y && true) && y)
        gone true = refl
        gone false = refl

        by : (a : KeyAlarm N) (t : Bool) → same a.key k ≡ t → is_moment (cond t None (map_of.get m a.key)) a.at ≡ (not (same_at a.at before && t) && set.contains (alarm_set m) a)
        by a true e = gone (same_at a.at before) ∙ ap (λ b. not (same_at a.at before && true) && b) (sym (at_key a (Some before) some e))
        by a false e = sym (contains-alarms m a) ∙ ap (λ b. not b && set.contains (alarm_set m) a) (sym (and_false (same_at a.at before)))

  pub find_mark : (q : KeyAlarm N) (ks : List (KeyAlarm N)) → find (alarm_cmp R) q (marked ks) ≡ mark (list_any (eq_by_cmp (alarm_cmp R) q) ks)
  find_mark q [] = refl
  find_mark q (k ∷ ks) = ap (λ r. cond (eq_by_cmp (alarm_cmp R) q k) (Some tt) r) (find_mark q ks) ∙ by (eq_by_cmp (alarm_cmp R) q k)
    where
      by : (b : Bool) → cond b (Some tt) (mark (list_any (eq_by_cmp (alarm_cmp R) q) ks)) ≡ mark (b || list_any (eq_by_cmp (alarm_cmp R) q) ks)
      by true = refl
      by false = refl

  pub marked_entries : (es : List (N × ℕ)) → map {B = KeyAlarm N × Unit {0}} (λ (e : N × ℕ). (alarm_of e, tt)) es ≡ marked (map alarm_of es)
  marked_entries [] = refl
  marked_entries (e ∷ es) = ap (λ r. (alarm_of e, tt) ∷ r) (marked_entries es)

  -- alarms in order that make up the set are the alarms
  pub alarms_are : (m : KeyDelays R) (ks : List (KeyAlarm N)) → IsStrictlySortedBy (alarm_cmp R) ks → set.from_list ks ≡ alarm_set m → alarms m ≡ ks
  alarms_are m ks h is =
      ap map_of.keys
      (same_map alarm_total alarm_tells (map_of.from_entries (map {B = KeyAlarm N × Unit {0}} (λ (e : N × ℕ). (alarm_of e, tt)) (map_of.entries m))) (map_of.from_entries (marked ks))
      (λ q. get-from_entries alarm_total _ q
      ∙ ap (find (alarm_cmp R) q) (marked_entries (map_of.entries m))
      ∙ find_mark q (map alarm_of (map_of.entries m))
      ∙ ap mark (sym (contains-from_list alarm_total (map alarm_of (map_of.entries m)) q) ∙ ap (λ s. set.contains s q) (sym is) ∙ contains-from_list alarm_total ks q)
      ∙ sym (find_mark q ks)
      ∙ sym (get-from_entries alarm_total _ q)))
      ∙ ap (map (λ (e : KeyAlarm N × Unit {0}). e.0)) (as_entries alarm_total ks h)
      ∙ firsts ks

  -- without delays there are no alarms
  pub no_alarms : alarm_set {R = R} map_of.empty ≡ set.empty
  no_alarms = ap (λ es. set.from_list {R = alarm_cmp R} (map alarm_of es)) (entries-empty R ℕ)
