-- Which keys are due, one alarm at a time.
use Rattle.std.proofs.Common.{◌≡◌, refl, sym, ap, ◌∙◌, ℕ, length, ◌+◌, ◌≤◌, ◌∷◌, [], ◌&&◌, ◌||◌, Bool, true, false, not, cond, List, map, Option, Some, None, nat_le, Ordering, Less, Equal, Greater, arith}
use mathlib.Core.Bool.{true≢false}
use Rattle.std.proofs.lemmas.Bool.Decides.{nat_tests}
use Rattle.std.proofs.lemmas.List.{length-map}
use Rattle.std.specs.Cmp.{Equal-is, IsTotalOrder, tied_itself}
use Rattle.std.specs.List.{filter, list_any, prefix_len, AllByRecursion}
use Rattle.std.specs.List.Sorted.{IsStrictlySortedBy}
use Rattle.std.specs.Ordering.{nat_cmp, eq_by_cmp, is_eq, ordering_then}
use Rattle.std.specs.FinMap as map_of
use Rattle.std.specs.FinMap.{IsAntisymmetric, get-remove, get-retain_keys, get_tied, same_map}
use Rattle.std.specs.FinSet as set
use Rattle.std.specs.FinSet.{contains-from_list, contains-insert, contains-remove, same_set}
use Rattle.spec_client_go.specs.Delays.{has_come}
use Rattle.spec_client_go.proofs.Alarms.{is_moment, same_at_itself}
use Rattle.spec_client_go.specs.KeyDelays.{KeyDelays, KeyAlarm, AreAlarms, alarm_cmp, alarm_of, due, first_moment, next_moment, still_delayed}
use Rattle.spec_client_go.proofs.Alarms as of

module _ {N : Type 0} (R : N → N → Ordering) (total : IsTotalOrder R) (tells : IsAntisymmetric R) where
  abbrev alarm_total : IsTotalOrder (alarm_cmp R)
  alarm_total = of.alarm_total R total tells

  abbrev alarm_tells : IsAntisymmetric (alarm_cmp R)
  alarm_tells = of.alarm_tells R total tells

  abbrev same : KeyAlarm N → KeyAlarm N → Bool
  same = eq_by_cmp (alarm_cmp R)

  same_itself : (a : KeyAlarm N) → same a a ≡ true
  same_itself a = ap is_eq (tied_itself alarm_total a)

  abbrev comes : ℕ → KeyAlarm N → Bool
  comes now a = nat_le a.at now

  pub due_is : (now : ℕ) (m : KeyDelays R) (ks : List (KeyAlarm N)) → AreAlarms R m ks → due now m ≡ map (λ (a : KeyAlarm N). a.key) (filter (comes now) ks)
  due_is now m ks h = ap (λ l. map (λ (a : KeyAlarm N). a.key) (filter (comes now) l)) (of.alarms_are R total tells m ks h.in_order h.are)

  absent : (a : KeyAlarm N) (ks : List (KeyAlarm N)) → AllByRecursion (λ y. alarm_cmp R a y ≡ Less) ks → list_any (same a) ks ≡ false
  absent a [] h = refl
  absent a (k ∷ ks) h = ap (λ o. is_eq o || list_any (same a) ks) h.0 ∙ absent a ks h.1

  -- without the first alarm, the rest is left
  rest_is : (a : KeyAlarm N) (ks : List (KeyAlarm N)) → AllByRecursion (λ y. alarm_cmp R a y ≡ Less) ks → set.remove {R = alarm_cmp R} (set.from_list (a ∷ ks)) a ≡ set.from_list ks
  rest_is a ks h =
      same_set alarm_total alarm_tells _ _
      (λ q. contains-remove alarm_total (set.from_list (a ∷ ks)) a q ∙ ap (λ b. not (same q a) && b) (contains-insert alarm_total (set.from_list ks) a q) ∙ by q (same q a) refl)
    where
      by : (q : KeyAlarm N) (b : Bool) → same q a ≡ b → (not b && (b || set.contains (set.from_list {R = alarm_cmp R} ks) q)) ≡ set.contains (set.from_list {R = alarm_cmp R} ks) q
      by q true e = sym (contains-from_list alarm_total ks q ∙ ap (λ x. list_any (same x) ks) (alarm_tells q a ((Equal-is (alarm_cmp R q a)).0 e)) ∙ absent a ks h)
      by q false e = refl

  module _ (m : KeyDelays R) (a : KeyAlarm N) (ks : List (KeyAlarm N)) (h : AreAlarms R m (a ∷ ks)) where
    -- the first alarm is that of its key
    pub first_is : map_of.get m a.key ≡ Some a.at
    first_is = of.moment_of R total tells m a (ap (λ s. set.contains s a) (sym h.are) ∙ contains-from_list alarm_total (a ∷ ks) a ∙ ap (λ b. b || list_any (same a) ks) (same_itself a))

    -- without its key, the other alarms are left
    pub rest_are : AreAlarms R (map_of.remove m a.key) ks
    unfolding IsStrictlySortedBy
    rest_are = record { in_order = h.in_order.1; are = sym (rest_is a ks h.in_order.0) ∙ ap (λ s. set.remove s a) h.are ∙ sym (of.alarms_removed R total tells m a.key a.at first_is) }

    -- where its moment has come, it is the first that is due
    pub due_first : (now : ℕ) → nat_le a.at now ≡ true → due now m ≡ a.key ∷ due now (map_of.remove m a.key)
    due_first now e =
        due_is now m (a ∷ ks) h
        ∙ ap (λ b. map (λ (a : KeyAlarm N). a.key) (cond b (a ∷ filter (comes now) ks) (filter (comes now) ks))) e
        ∙ ap (λ l. a.key ∷ l) (sym (due_is now (map_of.remove m a.key) ks rest_are))

  pub get-still : (now : ℕ) (m : KeyDelays R) (q : N) → map_of.get (still_delayed now m) q ≡ cond (not (has_come now (map_of.get m q))) (map_of.get m q) None
  get-still now m q = get-retain_keys m (λ k. not (has_come now (map_of.get m k))) q (λ x t. ap (λ o. not (has_come now o)) (get_tied total m q x t))

  -- to remove a key that is due changes nothing of what is left afterwards
  pub still_without : (now at : ℕ) (m : KeyDelays R) (k : N) → map_of.get m k ≡ Some at → nat_le at now ≡ true → still_delayed now (map_of.remove m k) ≡ still_delayed now m
  still_without now at m k is come =
      same_map total tells _ _
      (λ q. get-still now (map_of.remove m k) q ∙ ap (λ o. cond (not (has_come now o)) o None) (get-remove total m k q) ∙ by q (eq_by_cmp R q k) refl ∙ sym (get-still now m q))
    where
      left : (o : Option ℕ) → o ≡ Some at → None ≡ cond (not (has_come now o)) o None
      left o e = ap (λ b. cond (not b) (Some at) None) (sym come) ∙ ap (λ o. cond (not (has_come now o)) o None) (sym e)

      by : (q : N) (b : Bool) → eq_by_cmp R q k ≡ b → cond (not (has_come now (cond b None (map_of.get m q)))) (cond b None (map_of.get m q)) None ≡ cond (not (has_come now (map_of.get m q))) (map_of.get m q) None
      by q true e = left (map_of.get m q) (ap (map_of.get m) (of.same_tells R total tells q k e) ∙ is)
      by q false e = refl

  -- nothing is due yet
  AllLater : ℕ → List (KeyAlarm N) → Type 0
  AllLater now ks = AllByRecursion (λ (y : KeyAlarm N). nat_le y.at now ≡ false) ks

  later_than : (a b : KeyAlarm N) → alarm_cmp R a b ≡ Less → a.at ≤ b.at
  later_than a b e = by (nat_cmp a.at b.at) refl e
    where
      by : (o : Ordering) → nat_cmp a.at b.at ≡ o → ordering_then o (R a.key b.key) ≡ Less → a.at ≤ b.at
      by Less is f = grind (arith, nat_tests, is)
      by Equal is f = grind (arith, nat_tests, is)
      by Greater is f = cc

  all_later : (now : ℕ) (a : KeyAlarm N) (ks : List (KeyAlarm N)) → nat_le a.at now ≡ false → AllByRecursion (λ y. alarm_cmp R a y ≡ Less) ks → AllLater now ks
  unfolding AllLater
  all_later now a [] e h = tt
  all_later now a (k ∷ ks) e h = (let l = later_than a k h.0 in grind (arith, nat_tests, l, e), all_later now a ks e h.1)

  none_comes : (now : ℕ) (ks : List (KeyAlarm N)) → AllLater now ks → filter (comes now) ks ≡ []
  unfolding AllLater
  none_comes now [] h = refl
  none_comes now (k ∷ ks) h = ap (λ b. cond b (k ∷ filter (comes now) ks) (filter (comes now) ks)) h.0 ∙ none_comes now ks h.1

  among : (now : ℕ) (x : KeyAlarm N) (ks : List (KeyAlarm N)) → AllLater now ks → list_any (same x) ks ≡ true → nat_le x.at now ≡ false
  unfolding AllLater
  among now x [] h e = absurd (true≢false (sym e))
  among now x (k ∷ ks) h e = by (among now x ks h.1) (same x k) refl e
    where
      by : (list_any (same x) ks ≡ true → nat_le x.at now ≡ false) → (b : Bool) → same x k ≡ b → (b || list_any (same x) ks) ≡ true → nat_le x.at now ≡ false
      by rest true is f = ap (λ (y : KeyAlarm N). nat_le y.at now) (alarm_tells x k ((Equal-is (alarm_cmp R x k)).0 is)) ∙ h.0
      by rest false is f = rest f

  module _ (now : ℕ) (m : KeyDelays R) (ks : List (KeyAlarm N)) (h : AreAlarms R m ks) (l : AllLater now ks) where
    none_due_later : due now m ≡ []
    none_due_later = due_is now m ks h ∙ ap (map (λ (a : KeyAlarm N). a.key)) (none_comes now ks l)

    all_still_later : still_delayed now m ≡ m
    all_still_later = same_map total tells _ _ (λ q. get-still now m q ∙ by q (map_of.get m q) refl)
      where
        by : (q : N) (o : Option ℕ) → map_of.get m q ≡ o → cond (not (has_come now o)) o None ≡ o
        by q None is = refl
        by q (Some b) is =
            ap (λ c. cond (not c) (Some b) None)
            (among now (alarm_of (q, b)) ks l
            (sym (contains-from_list alarm_total ks (alarm_of (q, b))) ∙ ap (λ s. set.contains s (alarm_of (q, b))) h.are ∙ of.contains-alarms R total tells m (alarm_of (q, b)) ∙ ap (λ o. is_moment o b) is ∙ same_at_itself b))

  -- the next moment is that of the first alarm
  pub next_is_first : (m : KeyDelays R) (ks : List (KeyAlarm N)) → AreAlarms R m ks → next_moment m ≡ first_moment ks
  next_is_first m ks h = ap first_moment (of.alarms_are R total tells m ks h.in_order h.are)

  -- where the first alarm is later, or there is none, no key is due
  pub none_due : (now : ℕ) (m : KeyDelays R) → AreAlarms R m [] → due now m ≡ []
  unfolding AllLater
  none_due now m h = none_due_later now m [] h tt

  pub all_still : (now : ℕ) (m : KeyDelays R) → AreAlarms R m [] → still_delayed now m ≡ m
  unfolding AllLater
  all_still now m h = all_still_later now m [] h tt

  pub none_due_yet : (now : ℕ) (m : KeyDelays R) (a : KeyAlarm N) (ks : List (KeyAlarm N)) → AreAlarms R m (a ∷ ks) → nat_le a.at now ≡ false → due now m ≡ []
  unfolding AllLater IsStrictlySortedBy
  none_due_yet now m a ks h e = none_due_later now m (a ∷ ks) h (e, all_later now a ks e h.in_order.0)

  pub all_still_delayed : (now : ℕ) (m : KeyDelays R) (a : KeyAlarm N) (ks : List (KeyAlarm N)) → AreAlarms R m (a ∷ ks) → nat_le a.at now ≡ false → still_delayed now m ≡ m
  unfolding AllLater IsStrictlySortedBy
  all_still_delayed now m a ks h e = all_still_later now m (a ∷ ks) h (e, all_later now a ks e h.in_order.0)

  count_in_order : (now : ℕ) (ks : List (KeyAlarm N)) → IsStrictlySortedBy (alarm_cmp R) ks → prefix_len (comes now) ks ≡ length (filter (comes now) ks)
  unfolding IsStrictlySortedBy
  count_in_order now [] h = refl
  count_in_order now (k ∷ ks) h = by (count_in_order now ks h.1) (nat_le k.at now) refl
    where
      by : prefix_len (comes now) ks ≡ length (filter (comes now) ks) → (b : Bool) → nat_le k.at now ≡ b → cond b (1 + prefix_len (comes now) ks) 0 ≡ length (cond b (k ∷ filter (comes now) ks) (filter (comes now) ks))
      by rest true e = omega (arith, rest)
      by rest false e = ap length (sym (none_comes now ks (all_later now k ks e h.0)))

  -- as many keys are due as alarms stand before the first that is later
  pub count_first : (now : ℕ) (m : KeyDelays R) (ks : List (KeyAlarm N)) → AreAlarms R m ks → prefix_len (comes now) ks ≡ length (due now m)
  count_first now m ks h = count_in_order now ks h.in_order ∙ sym (length-map (filter (comes now) ks) (λ (a : KeyAlarm N). a.key)) ∙ ap length (sym (due_is now m ks h))
