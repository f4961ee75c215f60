-- Whose expectations age out, as a walk over the maps finds them.
use Rattle.std.proofs.Common.{◌≡◌, refl, sym, ap, subst, ◌∙◌, ℕ, List, [], ◌∷◌, ◌&&◌, ◌||◌, ◌⊎◌, inl, inr, Bool, true, false, not, cond, map, T, Option, Some, None, Less, arith}
use mathlib.Core.Bool.{true≢false}
use Rattle.std.specs.Cmp.{Equal-is, IsTotalOrder, tied_itself}
use Rattle.std.specs.List.{list_any, filter, AllByRecursion, Contains}
use Rattle.std.specs.List.Sorted.{IsStrictlySortedBy}
use Rattle.std.specs.Ordering.{eq_by_cmp, is_eq, is_lt}
use Rattle.std.specs.FinMap as map_of
use Rattle.std.specs.FinMap.{IsAntisymmetric, find, is_sorted, entries_sorted, get-entries}
use Rattle.std.specs.FinMap.Entries.{below_all}
use Rattle.std.specs.declared.cmp.Ordering.{Ordering}
use Rattle.std.proofs.lemmas.List.Elements.{Contains-append_right, Contains-append_left, Contains-push, Contains-append_cases, Contains-push_cases}
use Rattle.spec_api.specs.Keys.{Key, key_cmp}
use Rattle.spec_client_go.specs.Expectations.{Owner, Expectation, is_met, satisfied}
use Rattle.spec_client_go.specs.WorkQueues.{WorkKey, work_key_cmp}
use Rattle.spec_client_go.proofs.Alarms.{first, second, less_is_not_equal}
use Rattle.spec_client_go.proofs.WorkKeyOrder.{name_total, name_tells}
use Rattle.expectations.specs.Aged.{replica_set, AreAgedOut, ages_out, any_ages_out, aged_among}
use Rattle.expectations.specs.Seen.{uid_cmp, Owners, Nested, flat}
use Rattle.expectations.proofs.Flat.{within, get-flat}
use Rattle.expectations.proofs.Ordered.{is_less}
use Rattle.expectations.proofs.SeenTexts.{uid_total, uid_tells}

one_of : (a b : Bool) → (a || b) ≡ true → (a ≡ true) ⊎ (b ≡ true)
one_of true b e = inl refl
one_of false b e = inr e

or_true : (a b : Bool) → b ≡ true → (a || b) ≡ true
or_true true b e = refl
or_true false b e = e

-- ---- entries in the order of their keys

module _ {K X : Type 0} (R : K → K → Ordering) (o : IsTotalOrder R) (tells : IsAntisymmetric R) where
  not_found : (k : K) (es : List (K × X)) → T (below_all R k es) → find R k es ≡ None
  not_found k [] h = refl
  not_found k (e ∷ es) h =
      ap (λ b. cond b (Some e.1) (find R k es)) (less_is_not_equal (R k e.0) (below_all R k es) h)
      ∙ not_found k es (second (is_lt (R k e.0)) (below_all R k es) h)

  -- an entry that is found stays found behind one that is below it
  found_later : (q : K) (e : K × X) (es : List (K × X)) (x : X) → T (is_sorted R (e ∷ es)) → find R q es ≡ Some x → find R q (e ∷ es) ≡ Some x
  found_later q e es x h is = by (eq_by_cmp R q e.0) refl
    where
      by : (b : Bool) → eq_by_cmp R q e.0 ≡ b → cond b (Some e.1) (find R q es) ≡ Some x
      by true t =
          let same : q ≡ e.0 = tells q e.0 ((Equal-is (R q e.0)).0 t) in
          let none : find R q es ≡ None = ap (λ k. find R k es) same ∙ not_found e.0 es (first (below_all R e.0 es) (is_sorted R es) h) in
          let no : None ≡ Some x = sym none ∙ is in
          cc
      by false t = is

  -- an entry is found by its key
  found_first : (e : K × X) (es : List (K × X)) → find R e.0 (e ∷ es) ≡ Some e.1
  found_first e es = ap (λ b. cond b (Some e.1) (find R e.0 es)) (ap is_eq (tied_itself o e.0))

  any_found : (p : X → Bool) (es : List (K × X)) → T (is_sorted R es) → list_any (λ e. p e.1) es ≡ true → (q : K) × (x : X) × (find R q es ≡ Some x) × (p x ≡ true)
  any_found p [] h is = absurd (true≢false (sym is))
  any_found p (e ∷ es) h is =
      elim (one_of (p e.1) (list_any (λ e. p e.1) es) is) [
        | inl t ↦ (e.0, e.1, found_first e es, t)
        | inr later ↦
            let w = any_found p es (second (below_all R e.0 es) (is_sorted R es) h) later in
            (w.0, w.1, found_later w.0 e es w.1 h w.2, w.3)
      ]

  found_any : (p : X → Bool) (q : K) (es : List (K × X)) (x : X) → find R q es ≡ Some x → p x ≡ true → list_any (λ e. p e.1) es ≡ true
  found_any p q [] x is t = let no : None ≡ Some x = is in cc
  found_any p q (e ∷ es) x is t = by (eq_by_cmp R q e.0) refl (λ is. found_any p q es x is t)
    where
      by : (b : Bool) → eq_by_cmp R q e.0 ≡ b → (find R q es ≡ Some x → list_any (λ e. p e.1) es ≡ true) → (p e.1 || list_any (λ e. p e.1) es) ≡ true
      by true at rest =
          let same : Some e.1 ≡ Some x = ap (λ b. cond b (Some e.1) (find R q es)) (sym at) ∙ is in
          let value : e.1 ≡ x = cc in
          ap (λ b. b || list_any (λ e. p e.1) es) (ap p value ∙ t)
      by false at rest = or_true (p e.1) (list_any (λ e. p e.1) es) (rest (ap (λ b. cond b (Some e.1) (find R q es)) (sym at) ∙ is))

-- ---- the keys of a walk

module _ (before now : ℕ) where
  abbrev aged : List (Key × Owners) → List WorkKey
  aged es = aged_among before now es

  abbrev any : Owners → Bool
  any m = any_ages_out before now m

  above_aged : (k : Key) (es : List (Key × Owners)) → T (below_all key_cmp k es) → AllByRecursion (λ y. work_key_cmp (replica_set k) y ≡ Less) (aged es)
  above_aged k [] h = tt
  above_aged k (e ∷ es) h = by (any e.1) (above_aged k es (second (is_lt (key_cmp k e.0)) (below_all key_cmp k es) h))
    where
      by : (b : Bool) → AllByRecursion (λ y. work_key_cmp (replica_set k) y ≡ Less) (aged es)
          → AllByRecursion (λ y. work_key_cmp (replica_set k) y ≡ Less) (map (λ (e : Key × Owners). replica_set e.0) (cond b (e ∷ filter (λ e. any e.1) es) (filter (λ e. any e.1) es)))
      by true rest = (is_less (key_cmp k e.0) (first (is_lt (key_cmp k e.0)) (below_all key_cmp k es) h), rest)
      by false rest = rest

  aged_in_order : (es : List (Key × Owners)) → T (is_sorted key_cmp es) → IsStrictlySortedBy work_key_cmp (aged es)
  unfolding IsStrictlySortedBy
  aged_in_order [] h = tt
  aged_in_order (e ∷ es) h = by (any e.1) (aged_in_order es (second (below_all key_cmp e.0 es) (is_sorted key_cmp es) h))
    where
      by : (b : Bool) → IsStrictlySortedBy work_key_cmp (aged es) → IsStrictlySortedBy work_key_cmp (map (λ (e : Key × Owners). replica_set e.0) (cond b (e ∷ filter (λ e. any e.1) es) (filter (λ e. any e.1) es)))
      by true rest = (above_aged e.0 es (first (below_all key_cmp e.0 es) (is_sorted key_cmp es) h), rest)
      by false rest = rest

  has_key : (k : Key) (m : Owners) (es : List (Key × Owners)) → find key_cmp k es ≡ Some m → any m ≡ true → Contains (aged es) (replica_set k)
  has_key k m [] is t = let no : None ≡ Some m = is in cc
  has_key k m (e ∷ es) is ages = by (eq_by_cmp key_cmp k e.0) refl (λ is. has_key k m es is ages)
    where
      kept : (b : Bool) → b ≡ true → Contains (map (λ (e : Key × Owners). replica_set e.0) (cond b (e ∷ filter (λ e. any e.1) es) (filter (λ e. any e.1) es))) (replica_set e.0)
      kept true t = Contains-append_left (replica_set e.0 ∷ []) (aged es) (replica_set e.0) (Contains-push [] (replica_set e.0))
      kept false t = absurd (true≢false (sym t))

      behind : (b : Bool) → Contains (aged es) (replica_set k) → Contains (map (λ (e : Key × Owners). replica_set e.0) (cond b (e ∷ filter (λ e. any e.1) es) (filter (λ e. any e.1) es))) (replica_set k)
      behind true h = Contains-append_right (replica_set e.0 ∷ []) (aged es) (replica_set k) h
      behind false h = h

      by : (b : Bool) → eq_by_cmp key_cmp k e.0 ≡ b → (find key_cmp k es ≡ Some m → Contains (aged es) (replica_set k)) → Contains (aged (e ∷ es)) (replica_set k)
      by true t rest =
          let same : Some e.1 ≡ Some m = ap (λ b. cond b (Some e.1) (find key_cmp k es)) (sym t) ∙ is in
          let value : e.1 ≡ m = cc in
          let name : k ≡ e.0 = name_tells k e.0 ((Equal-is (key_cmp k e.0)).0 t) in
          subst (λ n. Contains (aged (e ∷ es)) (replica_set n)) (sym name) (kept (any e.1) (ap any value ∙ ages))
      by false t rest = behind (any e.1) (rest (ap (λ b. cond b (Some e.1) (find key_cmp k es)) (sym t) ∙ is))

  abbrev Came : List (Key × Owners) → WorkKey → Type 0
  Came es k = (e : Key × Owners) × (k ≡ replica_set e.0) × (find key_cmp e.0 es ≡ Some e.1) × (any e.1 ≡ true)

  came : (k : WorkKey) (es : List (Key × Owners)) → T (is_sorted key_cmp es) → Contains (aged es) k → Came es k
  came k [] h c = absurd (omega (arith, c.1))
  came k (e ∷ es) h c = by (any e.1) refl (λ c. later (came k es (second (below_all key_cmp e.0 es) (is_sorted key_cmp es) h) c)) c
    where
      later : Came es k → Came (e ∷ es) k
      later w = (w.0, w.1, found_later key_cmp name_total name_tells w.0.0 e es w.0.1 h w.2, w.3)

      itself : any e.1 ≡ true → Contains (replica_set e.0 ∷ []) k → Came (e ∷ es) k
      itself t c =
          elim (Contains-push_cases [] (replica_set e.0) k c) [
            | inl none ↦ absurd (omega (arith, none.1))
            | inr same ↦ (e, sym same, found_first key_cmp name_total name_tells e es, t)
          ]

      by : (b : Bool) → any e.1 ≡ b → (Contains (aged es) k → Came (e ∷ es) k) → Contains (map (λ (e : Key × Owners). replica_set e.0) (cond b (e ∷ filter (λ e. any e.1) es) (filter (λ e. any e.1) es))) k → Came (e ∷ es) k
      by true t rest c =
          elim (Contains-append_cases (replica_set e.0 ∷ []) (aged es) k c) [
            | inl own ↦ itself t own
            | inr more ↦ rest more
          ]
      by false t rest c = rest c

  -- ---- the table

  gets_old : (a b : Bool) → a ≡ false → b ≡ true → (not a && b) ≡ true
  gets_old true b e f = absurd (true≢false e)
  gets_old false b e f = f

  got_old : (a b : Bool) → (not a && b) ≡ true → (a ≡ false) × (b ≡ true)
  got_old true b e = absurd (true≢false (sym e))
  got_old false b e = (refl, e)

  each_is : (n : Nested) (o : Owner) → is_met before (map_of.get (flat n) o) ≡ false → is_met now (map_of.get (flat n) o) ≡ true → Contains (aged (map_of.entries n)) (replica_set o.key)
  each_is n o waits over = by (map_of.get n o.key) refl (ap (is_met before) (sym (get-flat n o)) ∙ waits) (ap (is_met now) (sym (get-flat n o)) ∙ over)
    where
      of : (m : Owners) (x : Option Expectation) → map_of.get n o.key ≡ Some m → map_of.get m o.uid ≡ x → is_met before x ≡ false → is_met now x ≡ true → Contains (aged (map_of.entries n)) (replica_set o.key)
      of m None found is w v = absurd (true≢false w)
      of m (Some x) found is w v =
          has_key o.key m (map_of.entries n) (sym (get-entries n o.key) ∙ found)
          (found_any uid_cmp uid_total uid_tells (λ x. ages_out before now (Some x)) o.uid (map_of.entries m) x (sym (get-entries m o.uid) ∙ is) (gets_old (is_met before (Some x)) (is_met now (Some x)) w v))

      by : (x : Option Owners) → map_of.get n o.key ≡ x → is_met before (within o.uid x) ≡ false → is_met now (within o.uid x) ≡ true → Contains (aged (map_of.entries n)) (replica_set o.key)
      by None is w v = absurd (true≢false w)
      by (Some m) is w v = of m (map_of.get m o.uid) is refl w v

  only_is : (n : Nested) (k : WorkKey) → Contains (aged (map_of.entries n)) k → (o : Owner) × (k ≡ replica_set o.key) × (satisfied o before (flat n) ≡ false) × (satisfied o now (flat n) ≡ true)
  only_is n k c =
      let w = came k (map_of.entries n) (entries_sorted n) c in
      let v = any_found uid_cmp uid_total uid_tells (λ x. ages_out before now (Some x)) (map_of.entries w.0.1) (entries_sorted w.0.1) w.3 in
      let old = got_old (is_met before (Some v.1)) (is_met now (Some v.1)) v.3 in
      let o : Owner = record { key = w.0.0; uid = v.0 } in
      let at : map_of.get (flat n) o ≡ Some v.1 = get-flat n o ∙ ap (within v.0) (get-entries n w.0.0 ∙ w.2) ∙ get-entries w.0.1 v.0 ∙ v.2 in
      (o, w.1, ap (is_met before) at ∙ old.0, ap (is_met now) at ∙ old.1)

  -- the keys of the walk are those that age out
  pub aged_are : (n : Nested) → AreAgedOut before now (flat n) (aged (map_of.entries n))
  aged_are n = record { in_order = aged_in_order (map_of.entries n) (entries_sorted n); each = each_is n; only = only_is n }
