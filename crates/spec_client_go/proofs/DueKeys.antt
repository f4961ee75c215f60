-- The keys that are due: those whose moment has come, in their order.
use Rattle.std.proofs.Common.{◌≡◌, ◌↔◌, ℕ, ◌<◌, ◌≤◌, List, [], ◌∷◌, ◌&&◌, ◌||◌, T, Bool, true, false, true≢false, not, cond, map, is_some, nat_le, Contains, Option, Some, None, unwrap_or, Ordering, Less, Equal, Greater, arith, refl, sym, ap, ap₂, subst, ◌∙◌}
use Rattle.std.proofs.lemmas.Bool.Decides.{nat_tests}
use Rattle.std.proofs.lemmas.Cmp.{eq_by_cmp_equiv}
use Rattle.std.proofs.lemmas.List.Kept.{IsStrictlySortedBy-filter}
use Rattle.std.proofs.lemmas.Map.Views.{Contains-from_any, list_any-from_Contains}
use Rattle.std.specs.Cmp.{Equal-is, IsTotalOrder, on_total, tied_itself}
use Rattle.std.specs.FinMap as map_of
use Rattle.std.specs.FinMap.{IsAntisymmetric, is_sorted, entries_sorted, contains_key-keys, get-from_entries}
use Rattle.std.specs.FinMap.Entries.{below_all}
use Rattle.std.specs.FinSet as set
use Rattle.std.specs.FinSet.{contains-from_list, same_set}
use Rattle.std.specs.List.{filter, list_any, AllByRecursion}
use Rattle.std.specs.List.Sorted.{IsStrictlySortedBy}
use Rattle.std.specs.Ordering.{eq_by_cmp, is_eq, is_lt, ordering_reverse}
use Rattle.spec_client_go.specs.Delays.{has_come}
use Rattle.spec_client_go.proofs.Alarms.{mark, is_moment, same_at_itself}
use Rattle.spec_client_go.specs.KeyDelays.{KeyDelays, KeyAlarm, AreAlarms, alarm_cmp, alarm_of, alarms, due, still_delayed, IsDue, alarm_at, AreInTurn}
use Rattle.spec_client_go.proofs.Alarms as of
use Rattle.spec_client_go.proofs.Due as due_keys

and_parts : (a b : Bool) → T (a && b) → T a × T b
and_parts true b h = (tt, h)
and_parts false b h = absurd h

is_less : (o : Ordering) → T (is_lt o) → o ≡ Less
is_less Less h = refl
is_less Equal h = absurd h
is_less Greater h = absurd h

below_keys : {K X : Type 0} (R : K → K → Ordering) (k : K) (es : List (K × X)) → T (below_all R k es) → AllByRecursion (λ y. R k y ≡ Less) (map (λ (e : K × X). e.0) es)
below_keys R k [] h = tt
below_keys R k (e ∷ es) h = let p = and_parts (is_lt (R k e.0)) (below_all R k es) h in (is_less (R k e.0) p.0, below_keys R k es p.1)

keys_in_order : {K X : Type 0} (R : K → K → Ordering) (es : List (K × X)) → T (is_sorted R es) → IsStrictlySortedBy R (map (λ (e : K × X). e.0) es)
unfolding IsStrictlySortedBy
keys_in_order R [] h = tt
keys_in_order R (e ∷ es) h = let p = and_parts (below_all R e.0 es) (is_sorted R es) h in (below_keys R e.0 es p.0, keys_in_order R es p.1)

is_some-mark : (b : Bool) → is_some (mark b) ≡ b
is_some-mark true = refl
is_some-mark false = refl

equal : (o : Ordering) → is_eq o ≡ true → o ≡ Equal
equal o h = (Equal-is o).0 h

or_first : (a b : Bool) → a ≡ true → (a || b) ≡ true
or_first true b h = refl
or_first false b h = absurd (true≢false (sym h))

or_second : (a b : Bool) → b ≡ true → (a || b) ≡ true
or_second true b h = refl
or_second false b h = h

at_most : (a b : ℕ) → nat_le a b ≡ true → a ≤ b
at_most a b h = grind (arith, nat_tests)

at_most_back : (a b : ℕ) → a ≤ b → nat_le a b ≡ true
at_most_back a b h = grind (arith, nat_tests)

module _ {K : Type 0} {R : K → K → Ordering} (o : IsTotalOrder R) (tells : IsAntisymmetric R) where
  not_below : (q : K) (ks : List K) → AllByRecursion (λ y. R q y ≡ Less) ks → list_any (eq_by_cmp R q) ks ≡ false
  not_below q [] h = refl
  not_below q (k ∷ ks) h = ap (λ r. is_eq r || list_any (eq_by_cmp R q) ks) h.0 ∙ not_below q ks h.1

  all_below : (q k : K) (ks : List K) → R q k ≡ Less → AllByRecursion (λ y. R k y ≡ Less) ks → AllByRecursion (λ y. R q y ≡ Less) ks
  all_below q k [] h g = tt
  all_below q k (j ∷ ks) h g = (o.trans q k j h g.0, all_below q k ks h g.1)

  first_there : (x : K) (xs : List K) → list_any (eq_by_cmp R x) (x ∷ xs) ≡ true
  first_there x xs = or_first (is_eq (R x x)) (list_any (eq_by_cmp R x) xs) (ap is_eq (tied_itself o x))

  first_missing : (x y : K) (ys : List K) → R x y ≡ Less → AllByRecursion (λ z. R y z ≡ Less) ys → list_any (eq_by_cmp R x) (y ∷ ys) ≡ false
  first_missing x y ys h g = ap (λ r. is_eq r || list_any (eq_by_cmp R x) ys) h ∙ not_below x ys (all_below x y ys h g)

  rest_alike : (x : K) (xs ys : List K) → AllByRecursion (λ z. R x z ≡ Less) xs → AllByRecursion (λ z. R x z ≡ Less) ys
      → ((q : K) → list_any (eq_by_cmp R q) (x ∷ xs) ≡ list_any (eq_by_cmp R q) (x ∷ ys)) → (q : K) → list_any (eq_by_cmp R q) xs ≡ list_any (eq_by_cmp R q) ys
  rest_alike x xs ys h g alike q = by (eq_by_cmp R q x) refl (alike q)
    where
      at : (zs : List K) → AllByRecursion (λ z. R x z ≡ Less) zs → eq_by_cmp R q x ≡ true → list_any (eq_by_cmp R q) zs ≡ false
      at zs b is = ap (λ k. list_any (eq_by_cmp R k) zs) (tells q x (equal (R q x) is)) ∙ not_below x zs b

      by : (b : Bool) → eq_by_cmp R q x ≡ b → (b || list_any (eq_by_cmp R q) xs) ≡ (b || list_any (eq_by_cmp R q) ys) → list_any (eq_by_cmp R q) xs ≡ list_any (eq_by_cmp R q) ys
      by true is e = at xs h is ∙ sym (at ys g is)
      by false is e = e

  -- a list in order is settled by what it contains
  only_one : (xs ys : List K) → IsStrictlySortedBy R xs → IsStrictlySortedBy R ys → ((q : K) → list_any (eq_by_cmp R q) xs ≡ list_any (eq_by_cmp R q) ys) → xs ≡ ys
  unfolding IsStrictlySortedBy
  only_one [] [] h g alike = refl
  only_one [] (y ∷ ys) h g alike = absurd (true≢false (sym (first_there y ys) ∙ sym (alike y)))
  only_one (x ∷ xs) [] h g alike = absurd (true≢false (sym (first_there x xs) ∙ alike x))
  only_one (x ∷ xs) (y ∷ ys) h g alike = by (R x y) refl (only_one xs ys h.1 g.1)
    where
      by : (r : Ordering) → R x y ≡ r → (((q : K) → list_any (eq_by_cmp R q) xs ≡ list_any (eq_by_cmp R q) ys) → xs ≡ ys) → (x ∷ xs) ≡ (y ∷ ys)
      by Less is rest = absurd (true≢false (sym (first_there x xs) ∙ alike x ∙ first_missing x y ys is g.0))
      by Greater is rest =
          let below : R y x ≡ Less = o.antisymm y x ∙ ap ordering_reverse is in
          absurd (true≢false (sym (first_there y ys) ∙ sym (alike y) ∙ first_missing y x xs below h.0))
      by Equal is rest =
          let one : x ≡ y = tells x y is in
          ap₂ (λ z zs. z ∷ zs) one
          (rest
          (rest_alike x xs ys h.0 (subst (λ z. AllByRecursion (λ w. R z w ≡ Less) ys) (sym one) g.0) (λ q. alike q ∙ ap (λ z. eq_by_cmp R q z || list_any (eq_by_cmp R q) ys) (sym one))))

both_or_neither : (a b : Bool) → (a ≡ true → b ≡ true) → (b ≡ true → a ≡ true) → a ≡ b
both_or_neither true b f g = sym (f refl)
both_or_neither false true f g = g refl
both_or_neither false false f g = refl

later : (at now : ℕ) → nat_le at now ≡ false → now < at
later at now h = grind (arith, nat_tests)

later_back : (at now : ℕ) → now < at → nat_le at now ≡ false
later_back at now h = grind (arith, nat_tests)

one_moment : (a b : ℕ) → Some a ≡ Some b → a ≡ b
one_moment a b h = cc

left_at : (now at : ℕ) (o : Option ℕ) → cond (not (has_come now o)) o None ≡ Some at → (o ≡ Some at) × (now < at)
left_at now at None h = cc
left_at now at (Some b) h = by (nat_le b now) refl h
  where
    by : (c : Bool) → nat_le b now ≡ c → cond (not c) (Some b) None ≡ Some at → (Some b ≡ Some at) × (now < at)
    by true is g = cc
    by false is g = (g, subst (λ x. now < x) (one_moment b at g) (later b now is))

module _ {N : Type 0} (R : N → N → Ordering) (total : IsTotalOrder R) (tells : IsAntisymmetric R) where
  abbrev alarm_total : IsTotalOrder (alarm_cmp R)
  alarm_total = of.alarm_total R total tells

  abbrev alarm_tells : IsAntisymmetric (alarm_cmp R)
  alarm_tells = of.alarm_tells R total tells

  abbrev entries_of : KeyDelays R → List (KeyAlarm N × Unit {0})
  entries_of m = map (λ (e : N × ℕ). (alarm_of e, tt)) (map_of.entries m)

  pub are_alarms : (m : KeyDelays R) → AreAlarms R m (alarms m)
  are_alarms m =
      record {
        in_order = keys_in_order (alarm_cmp R) (map_of.entries (map_of.from_entries {R = alarm_cmp R} (entries_of m))) (entries_sorted (map_of.from_entries {R = alarm_cmp R} (entries_of m)));
        are =
            same_set alarm_total alarm_tells _ _
            (λ q. contains-from_list alarm_total (alarms m) q
            ∙ sym (contains_key-keys (map_of.from_entries {R = alarm_cmp R} (entries_of m)) q)
            ∙ ap is_some (get-from_entries alarm_total (entries_of m) q ∙ ap (map_of.find (alarm_cmp R) q) (of.marked_entries R total tells (map_of.entries m)) ∙ of.find_mark R total tells q (map alarm_of (map_of.entries m)))
            ∙ is_some-mark (list_any (eq_by_cmp (alarm_cmp R) q) (map alarm_of (map_of.entries m)))
            ∙ sym (contains-from_list alarm_total (map alarm_of (map_of.entries m)) q));
      }

  abbrev same : KeyAlarm N → KeyAlarm N → Bool
  same = eq_by_cmp (alarm_cmp R)

  -- an alarm is one of them exactly where its key is delayed to its moment
  there : (m : KeyDelays R) (a : KeyAlarm N) → list_any (same a) (alarms m) ≡ is_moment (map_of.get m a.key) a.at
  there m a = sym (contains-from_list alarm_total (alarms m) a) ∙ ap (λ s. set.contains s a) ((are_alarms m).are) ∙ of.contains-alarms R total tells m a

  own_moment : (m : KeyDelays R) (a : KeyAlarm N) → list_any (same a) (alarms m) ≡ true → map_of.get m a.key ≡ Some a.at
  own_moment m a h = of.moment_of R total tells m a (ap (λ s. set.contains s a) (sym ((are_alarms m).are)) ∙ contains-from_list alarm_total (alarms m) a ∙ h)

  abbrev comes : ℕ → KeyAlarm N → Bool
  comes now a = nat_le a.at now

  abbrev key_of : KeyAlarm N → N
  key_of a = a.key

  same_key : (k j : N) → eq_by_cmp R k j ≡ true → k ≡ j
  same_key k j h = tells k j (equal (R k j) h)

  same_alarm : (a b : KeyAlarm N) → same a b ≡ true → a ≡ b
  same_alarm a b h = alarm_tells a b (equal (alarm_cmp R a b) h)

  itself : (a : KeyAlarm N) → same a a ≡ true
  itself a = ap is_eq (tied_itself alarm_total a)

  -- an alarm of a key that comes up among these
  abbrev Found : ℕ → N → List (KeyAlarm N) → Type 0
  Found now k ks = (at : ℕ) × (list_any (same (alarm_of (k, at))) ks ≡ true) × (nat_le at now ≡ true)

  later_found : (now : ℕ) (k : N) (a : KeyAlarm N) (ks : List (KeyAlarm N)) → Found now k ks → Found now k (a ∷ ks)
  later_found now k a ks f = (f.0, or_second (same (alarm_of (k, f.0)) a) (list_any (same (alarm_of (k, f.0))) ks) f.1, f.2)

  found_here : (now : ℕ) (k : N) (a : KeyAlarm N) (ks : List (KeyAlarm N)) → nat_le a.at now ≡ true → (b : Bool) → eq_by_cmp R k a.key ≡ b
      → (b || list_any (eq_by_cmp R k) (map key_of (filter (comes now) ks))) ≡ true
      → (list_any (eq_by_cmp R k) (map key_of (filter (comes now) ks)) ≡ true → Found now k ks) → Found now k (a ∷ ks)
  found_here now k a ks come true is h later =
      let alike : same (alarm_of (k, a.at)) a ≡ true = ap (λ t. same (alarm_of (t, a.at)) a) (same_key k a.key is) ∙ itself a in
      (a.at, or_first (same (alarm_of (k, a.at)) a) (list_any (same (alarm_of (k, a.at))) ks) alike, come)
  found_here now k a ks come false is h later = later_found now k a ks (later h)

  found_at : (now : ℕ) (k : N) (a : KeyAlarm N) (ks : List (KeyAlarm N)) (b : Bool) → nat_le a.at now ≡ b → list_any (eq_by_cmp R k) (map key_of (cond b (a ∷ filter (comes now) ks) (filter (comes now) ks))) ≡ true
      → (list_any (eq_by_cmp R k) (map key_of (filter (comes now) ks)) ≡ true → Found now k ks) → Found now k (a ∷ ks)
  found_at now k a ks true come h later = found_here now k a ks come (eq_by_cmp R k a.key) refl h later
  found_at now k a ks false come h later = later_found now k a ks (later h)

  found : (now : ℕ) (k : N) (ks : List (KeyAlarm N)) → list_any (eq_by_cmp R k) (map key_of (filter (comes now) ks)) ≡ true → Found now k ks
  found now k [] h = absurd (true≢false (sym h))
  found now k (a ∷ ks) h = found_at now k a ks (nat_le a.at now) refl h (found now k ks)

  handed_at : (now at : ℕ) (k : N) (a : KeyAlarm N) (ks : List (KeyAlarm N)) (b : Bool) → same (alarm_of (k, at)) a ≡ b → nat_le at now ≡ true → (b || list_any (same (alarm_of (k, at))) ks) ≡ true
      → (list_any (same (alarm_of (k, at))) ks ≡ true → list_any (eq_by_cmp R k) (map key_of (filter (comes now) ks)) ≡ true)
      → list_any (eq_by_cmp R k) (map key_of (filter (comes now) (a ∷ ks))) ≡ true
  handed_at now at k a ks true is come h later =
      let one = same_alarm (alarm_of (k, at)) a is in
      let here : nat_le a.at now ≡ true = ap (λ (b : KeyAlarm N). nat_le b.at now) (sym one) ∙ come in
      let alike : eq_by_cmp R k a.key ≡ true = ap (λ (b : KeyAlarm N). eq_by_cmp R k b.key) (sym one) ∙ ap is_eq (tied_itself total k) in
      ap (λ b. list_any (eq_by_cmp R k) (map key_of (cond b (a ∷ filter (comes now) ks) (filter (comes now) ks)))) here
      ∙ or_first (eq_by_cmp R k a.key) (list_any (eq_by_cmp R k) (map key_of (filter (comes now) ks))) alike
  handed_at now at k a ks false is come h later = by (nat_le a.at now)
    where
      by : (b : Bool) → list_any (eq_by_cmp R k) (map key_of (cond b (a ∷ filter (comes now) ks) (filter (comes now) ks))) ≡ true
      by true = or_second (eq_by_cmp R k a.key) (list_any (eq_by_cmp R k) (map key_of (filter (comes now) ks))) (later h)
      by false = later h

  handed : (now at : ℕ) (k : N) (ks : List (KeyAlarm N)) → nat_le at now ≡ true → list_any (same (alarm_of (k, at))) ks ≡ true → list_any (eq_by_cmp R k) (map key_of (filter (comes now) ks)) ≡ true
  handed now at k [] come h = absurd (true≢false (sym h))
  handed now at k (a ∷ ks) come h = handed_at now at k a ks (same (alarm_of (k, at)) a) refl come h (handed now at k ks come)

  due_from : (now : ℕ) (m : KeyDelays R) (k : N) → list_any (eq_by_cmp R k) (due now m) ≡ true → IsDue now m k
  due_from now m k h = let f = found now k (alarms m) h in (f.0, own_moment m (alarm_of (k, f.0)) f.1, at_most f.0 now f.2)

  from_due : (now : ℕ) (m : KeyDelays R) (k : N) → IsDue now m k → list_any (eq_by_cmp R k) (due now m) ≡ true
  from_due now m k d = handed now d.0 k (alarms m) (at_most_back d.0 now d.2) (there m (alarm_of (k, d.0)) ∙ ap (λ o. is_moment o d.0) d.1 ∙ same_at_itself d.0)

  any_key : (k : N) (ks : List N) → Contains ks k → list_any (eq_by_cmp R k) ks ≡ true
  any_key k ks = list_any-from_Contains (eq_by_cmp_equiv total) k ks

  key_from_any : (k : N) (ks : List N) → list_any (eq_by_cmp R k) ks ≡ true → Contains ks k
  key_from_any k ks = Contains-from_any same_key k ks

  -- the keys that are due are those whose moment has come, and no others
  pub have_come : (now : ℕ) (m : KeyDelays R) (k : N) → Contains (due now m) k ↔ IsDue now m k
  have_come now m k = (λ c. due_from now m k (any_key k (due now m) c), λ d. key_from_any k (due now m) (from_due now m k d))

  abbrev IsOwn : KeyDelays R → KeyAlarm N → Type 0
  IsOwn m a = alarm_at m a.key ≡ a

  own : (m : KeyDelays R) (a : KeyAlarm N) → list_any (same a) (alarms m) ≡ true → IsOwn m a
  own m a h = let at : unwrap_or (map_of.get m a.key) 0 ≡ a.at = ap (λ o. unwrap_or o 0) (own_moment m a h) in λ i. record { at = at i; key = a.key }

  all_from : (P : KeyAlarm N → Type 0) (ks : List (KeyAlarm N)) → ((a : KeyAlarm N) → list_any (same a) ks ≡ true → P a) → AllByRecursion P ks
  all_from P [] h = tt
  all_from P (a ∷ ks) h = (h a (or_first (same a a) (list_any (same a) ks) (itself a)), all_from P ks (λ b g. h b (or_second (same b a) (list_any (same b) ks) g)))

  all_filter : (P : KeyAlarm N → Type 0) (p : KeyAlarm N → Bool) (ks : List (KeyAlarm N)) → AllByRecursion P ks → AllByRecursion P (filter p ks)
  all_filter P p [] h = tt
  all_filter P p (a ∷ ks) h = by (p a) (all_filter P p ks h.1)
    where
      by : (b : Bool) → AllByRecursion P (filter p ks) → AllByRecursion P (cond b (a ∷ filter p ks) (filter p ks))
      by true rest = (h.0, rest)
      by false rest = rest

  abbrev turn_cmp : KeyDelays R → N → N → Ordering
  turn_cmp m j k = alarm_cmp R (alarm_at m j) (alarm_at m k)

  below_in_turn : (m : KeyDelays R) (a : KeyAlarm N) (ks : List (KeyAlarm N)) → IsOwn m a → AllByRecursion (IsOwn m) ks → AllByRecursion (λ y. alarm_cmp R a y ≡ Less) ks → AllByRecursion (λ k. turn_cmp m a.key k ≡ Less) (map key_of ks)
  below_in_turn m a [] o os h = tt
  below_in_turn m a (b ∷ ks) o os h = (ap₂ (alarm_cmp R) o os.0 ∙ h.0, below_in_turn m a ks o os.1 h.1)

  keys_in_turn : (m : KeyDelays R) (ks : List (KeyAlarm N)) → AllByRecursion (IsOwn m) ks → IsStrictlySortedBy (alarm_cmp R) ks → AreInTurn m (map key_of ks)
  unfolding IsStrictlySortedBy
  keys_in_turn m [] os h = tt
  keys_in_turn m (a ∷ ks) os h = (below_in_turn m a ks os.0 os.1 h.0, keys_in_turn m ks os.1 h.1)

  -- in the order of their moments
  pub in_turn : (now : ℕ) (m : KeyDelays R) → AreInTurn m (due now m)
  in_turn now m =
      keys_in_turn m (filter (comes now) (alarms m)) (all_filter (IsOwn m) (comes now) (alarms m) (all_from (IsOwn m) (alarms m) (own m))) (IsStrictlySortedBy-filter (alarm_cmp R) (comes now) (alarms m) ((are_alarms m).in_order))

  module _ (m : KeyDelays R) where
    turn_total : IsTotalOrder (turn_cmp m)
    turn_total = on_total (alarm_at m) alarm_total

    turn_tells : IsAntisymmetric (turn_cmp m)
    turn_tells j k h = ap key_of (alarm_tells (alarm_at m j) (alarm_at m k) h)

    same_turn : (j k : N) → eq_by_cmp (turn_cmp m) j k ≡ true → j ≡ k
    same_turn j k h = turn_tells j k (equal (turn_cmp m j k) h)

  -- and no other list is both
  pub only_list : (now : ℕ) (m : KeyDelays R) (ks : List N) → ((k : N) → Contains ks k ↔ IsDue now m k) → AreInTurn m ks → ks ≡ due now m
  only_list now m ks are turn =
      only_one (turn_total m) (turn_tells m) ks (due now m) turn (in_turn now m)
      (λ q. both_or_neither _ _
      (λ h. list_any-from_Contains (eq_by_cmp_equiv (turn_total m)) q (due now m) ((have_come now m q).1 ((are q).0 (Contains-from_any (same_turn m) q ks h))))
      (λ h. list_any-from_Contains (eq_by_cmp_equiv (turn_total m)) q ks ((are q).1 ((have_come now m q).0 (Contains-from_any (same_turn m) q (due now m) h)))))

  -- what is still delayed are the keys whose moment is later, at their moments
  pub still_later : (now : ℕ) (m : KeyDelays R) (k : N) (at : ℕ) → (map_of.get (still_delayed now m) k ≡ Some at) ↔ ((map_of.get m k ≡ Some at) × (now < at))
  still_later now m k at = (
    λ h. left_at now at (map_of.get m k) (sym (due_keys.get-still R total tells now m k) ∙ h),
    λ h. due_keys.get-still R total tells now m k ∙ ap (λ o. cond (not (has_come now o)) o None) h.0 ∙ ap (λ b. cond (not b) (Some at) None) (later_back at now h.1),
  )
