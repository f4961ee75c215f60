-- Pods that are a set's own, and match it, stay so from write to write.
use Rattle.std.proofs.Common.{◌≡◌, ◌≤◌, ◌+◌, ◌-◌, ◌⊎◌, inl, inr, ◌&&◌, ◌||◌, not, ℕ, zero, suc, List, [], ◌∷◌, ◌++◌, Bool, true, false, true≢false, cond, codes, Option, Some, None, option_and_then, refl, sym, ap, ◌∙◌, subst, arith}
use Rattle.std.proofs.lemmas.Slice.Eq.{bytes_eq-Decides}
use Rattle.std.specs.List.{list_any, AllByRecursion}
use Rattle.std.specs.Result.{result_ok}
use Rattle.serde_json.specs.Data.{Data}
use Rattle.spec_api.proofs.Truths.{both_true, left_true, right_true}
use Rattle.spec_api.specs.declared.kinds.Kind.TheVariants.{Pod, ReplicaSet}
use Rattle.spec_api.specs.Checks.{controllers, in_spec}
use Rattle.spec_api.specs.History.{History, present, state}
use Rattle.spec_api.specs.Keys.{Key}
use Rattle.spec_api.specs.Metadata as metadata
use Rattle.spec_api.specs.Metadata.{uid, owners, owners_in, is_being_deleted}
use Rattle.spec_api.specs.Reached.{IsReached}
use Rattle.spec_api.specs.Selectors.{Requirement, meets_all}
use Rattle.spec_api.specs.SelectorValues.{is_some_and, selector_of_value}
use Rattle.spec_api.specs.Values.{inner_of}
use Rattle.spec_client_go.specs.Expectations.{Owner}
use Rattle.spec_client_go.specs.OwnerReferences.{is_text, is_controlled_by, has_controller, namespace_of}
use Rattle.spec_laws.proofs.Traced.{once, stand}
use Rattle.spec_reconcile.specs.PodClaims.{have_one_uid, is_released, is_adoptable}
use Rattle.spec_reconcile.specs.Pods.{is_active, is_owned, is_orphan, matches}
use Rattle.sim_worker_laws.proofs.Growing.{state_stands, present_grows}
use Rattle.sim_overshoot_laws.specs.KeptPods.{is_among}
use Rattle.sim_overshoot_laws.specs.MadePods.{IsOfSet}
use Rattle.sim_overshoot_laws.specs.Reserves.{is_controlled}
use Rattle.sim_overshoot_laws.proofs.Births.{le_or}
use Rattle.sim_overshoot_laws.proofs.KeptPods.{same_uid}
use Rattle.sim_overshoot_laws.proofs.OneSelector.{selectors_stay}
use Rattle.sim_overshoot_laws.proofs.OwnPods.{has_reference}
use Rattle.sim_overshoot_laws.proofs.PodWrites.{Replaces}
use Rattle.sim_overshoot_laws.proofs.KeptReferences.{have_one_controller, same_controlled}

-- ---- one controller

-- a controller reference of this uid
abbrev Refers : List ℕ → metadata.Owner → Bool
Refers u x = x.is_controller && is_text u x.uid

some_uid : (u v : List ℕ) (x : Option (List ℕ)) → is_text u x ≡ true → is_text v x ≡ true → u ≡ v
some_uid u v None e f = cc
some_uid u v (Some t) e f = (bytes_eq-Decides u t).0 e ∙ sym ((bytes_eq-Decides v t).0 f)

none_refers : (u : List ℕ) (xs : List metadata.Owner) → controllers xs ≤ 0 → list_any (Refers u) xs ≡ true → ⊥
none_refers u [] le e = true≢false (sym e)
none_refers u (x ∷ xs) le e = by x.is_controller le e (none_refers u xs)
  where
    by : (b : Bool) → cond b (suc (controllers xs)) (controllers xs) ≤ 0 → ((b && is_text u x.uid) || list_any (Refers u) xs) ≡ true → (controllers xs ≤ 0 → list_any (Refers u) xs ≡ true → ⊥) → ⊥
    by true le e later = absurd (omega (arith, le))
    by false le e later = later le e

one_refers : (u v : List ℕ) (xs : List metadata.Owner) → controllers xs ≤ 1 → list_any (Refers u) xs ≡ true → list_any (Refers v) xs ≡ true → u ≡ v
one_refers u v [] le e f = cc
one_refers u v (x ∷ xs) le e f = by x.is_controller le e f (one_refers u v xs)
  where
    less : (n : ℕ) → suc n ≤ 1 → n ≤ 0
    less n le = omega (arith, le)

    here : (w : List ℕ) (b : Bool) → is_text w x.uid ≡ b → controllers xs ≤ 0 → (b || list_any (Refers w) xs) ≡ true → is_text w x.uid ≡ true
    here w true is none e = is
    here w false is none e = absurd (none_refers w xs none e)

    by : (b : Bool) → cond b (suc (controllers xs)) (controllers xs) ≤ 1 → ((b && is_text u x.uid) || list_any (Refers u) xs) ≡ true → ((b && is_text v x.uid) || list_any (Refers v) xs) ≡ true
        → (controllers xs ≤ 1 → list_any (Refers u) xs ≡ true → list_any (Refers v) xs ≡ true → u ≡ v) → u ≡ v
    by true le e f later = let none = less (controllers xs) le in some_uid u v x.uid (here u (is_text u x.uid) refl none e) (here v (is_text v x.uid) refl none f)
    by false le e f later = later le e f

any_controls : (u : List ℕ) (xs : List metadata.Owner) → list_any (Refers u) xs ≡ true → list_any (λ (x : metadata.Owner). x.is_controller) xs ≡ true
any_controls u [] e = cc
any_controls u (x ∷ xs) e = by x.is_controller (is_text u x.uid) e (any_controls u xs)
  where
    by : (b c : Bool) → ((b && c) || list_any (Refers u) xs) ≡ true → (list_any (Refers u) xs ≡ true → list_any (λ (x : metadata.Owner). x.is_controller) xs ≡ true) → (b || list_any (λ (x : metadata.Owner). x.is_controller) xs) ≡ true
    by true c e later = refl
    by false c e later = later e

not_true : (b : Bool) → not b ≡ true → b ≡ true → ⊥
not_true true e f = true≢false (sym e)
not_true false e f = true≢false (sym f)

-- ---- what a pod is to a set

module _ (o : Owner) where
  refers : (pod : Data) → is_controlled o pod ≡ true → list_any (Refers o.uid) (owners pod) ≡ true
  refers pod is = (has_reference o (namespace_of pod) (owners pod) is).0

  -- by the labels, whether a set matches it
  matched_by : (set was new : Data) → metadata.labels_of new ≡ metadata.labels_of was → matches set was ≡ true → matches set new ≡ true
  matched_by set was new same is = ap (λ ls. is_some_and (λ (rs : List Requirement). meets_all rs ls) (metadata_requirements set)) same ∙ is
    where
      metadata_requirements : Data → Option (List Requirement)
      metadata_requirements d = option_and_then (λ s. result_ok (selector_of_value s)) (in_spec (codes "selector") d)

  pub with_labels : (h : History) (was new : Data) → is_controlled o new ≡ true → metadata.labels_of new ≡ metadata.labels_of was → IsOfSet o h was → IsOfSet o h new
  with_labels h was new controlled same is =
      let m = is.matched in record { controlled = controlled; matched = (m.0, m.1, m.2, m.3, m.4, m.5, m.6, matched_by m.2 was new same m.7) }

  pub grown : (h more : History) (pod : Data) → IsOfSet o h pod → IsOfSet o (h ++ more) pod
  grown h more pod is =
      let m = is.matched in
      record { controlled = is.controlled; matched = (m.0, m.1, m.2, within m.0 (present h) (present (h ++ more)) m.3 (present_grows h more), m.4, state_stands h more m.0 m.1 m.3 ∙ m.5, m.6, m.7) }
    where
      within : (a b c : ℕ) → a ≤ b → b ≤ c → a ≤ c
      within a b c e f = omega (arith, e, f)

  -- ---- what a turn's command leaves

  module _ (h : History) (reached : IsReached h) where
    -- one set, whenever it is there, matches the same pods
    same_set : (r s : ℕ) (k l : Key) (a b pod : Data) → r ≤ present h → s ≤ present h → k.kind ≡ ReplicaSet → state h r k ≡ Some a → state h s l ≡ Some b → uid a ≡ uid b → matches a pod ≡ matches b pod
    same_set r s k l a b pod low high set at as_well same =
        ap (λ x. is_some_and (λ (rs : List Requirement). meets_all rs (metadata.labels_of pod)) (option_and_then (λ v. result_ok (selector_of_value v)) x)) (selectors_stay h r s k l a b reached low high set at as_well same)

    -- a set of the uid matches it, whenever it was there
    pub matches_set : (r : ℕ) (k : Key) (set pod : Data) → r ≤ present h → state h r k ≡ Some set → k.kind ≡ ReplicaSet → uid set ≡ Some o.uid → IsOfSet o h pod → matches set pod ≡ true
    matches_set r k set pod low at kind named is = let m = is.matched in same_set r m.0 k m.1 set m.2 pod low m.3 kind at m.5 (named ∙ sym m.6) ∙ m.7

    -- a pod that is a set's own, and matches it, is not released, whoever looks
    pub matches_where_owned : (r s : ℕ) (k l : Key) (set pod : Data) → r ≤ present h → state h r k ≡ Some set → k.kind ≡ ReplicaSet → state h s l ≡ Some pod → IsOfSet o h pod
        → (u : List ℕ) → uid set ≡ Some u → is_controlled_by u pod ≡ true → matches set pod ≡ true
    matches_where_owned r s k l set pod low at kind there is u named by_u =
        let same : u ≡ o.uid = one_refers u o.uid (owners pod) (have_one_controller h s l pod reached there) by_u (refers pod is.controlled) in
        matches_set r k set pod low at kind (named ∙ ap Some same) is

    not_released : (r s : ℕ) (k l : Key) (set pod : Data) → r ≤ present h → state h r k ≡ Some set → k.kind ≡ ReplicaSet → state h s l ≡ Some pod → IsOfSet o h pod → is_released set pod ≡ true → ⊥
    not_released r s k l set pod low at kind there is gone =
        let parts = both_true (not (is_being_deleted set) && is_owned set pod) (not (matches set pod)) gone in
        let owned = right_true (is_active pod) (is_some_and (λ u. is_controlled_by u pod) (uid set)) (right_true (not (is_being_deleted set)) (is_owned set pod) parts.0) in
        not_true (matches set pod) parts.1 (by (uid set) refl owned)
      where
        by : (x : Option (List ℕ)) → uid set ≡ x → is_some_and (λ u. is_controlled_by u pod) x ≡ true → matches set pod ≡ true
        by None e f = cc
        by (Some u) e f = matches_where_owned r s k l set pod low at kind there is u e f

    not_adopted : (set pod : Data) → is_controlled o pod ≡ true → is_adoptable set pod ≡ true → ⊥
    not_adopted set pod controlled taken =
        let orphan = right_true (not (is_being_deleted set)) (is_orphan pod) (left_true (not (is_being_deleted set) && is_orphan pod) (matches set pod) taken) in
        not_true (has_controller pod) (right_true (is_active pod) (not (has_controller pod)) orphan) (any_controls o.uid (owners pod) (refers pod controlled))

    pub replaced_stays : (r s : ℕ) (k l : Key) (set was new : Data) → r ≤ present h → state h r k ≡ Some set → k.kind ≡ ReplicaSet → state h s l ≡ Some was → IsOfSet o h was → Replaces set was new → IsOfSet o h new
    replaced_stays r s k l set was new low at kind there is (inl same) = with_labels h was new (same_controlled o new was same.namespace same.references ∙ is.controlled) (ap inner_of same.labels) is
    replaced_stays r s k l set was new low at kind there is (inr (inl gone)) = absurd (not_released r s k l set was low at kind there is gone)
    replaced_stays r s k l set was new low at kind there is (inr (inr taken)) = absurd (not_adopted set was is.controlled taken)

-- ---- from write to write

-- each of the pods was there by a revision
abbrev pub Known : History → ℕ → List Data → Type 0
Known h n ps = AllByRecursion (λ (p : Data). (s : ℕ) × (l : Key) × (s ≤ n) × (state h s l ≡ Some p)) ps

-- and so it was by a later one
pub known_later : (h : History) (n m : ℕ) → n ≤ m → (ps : List Data) → Known h n ps → Known h m ps
known_later h n m le [] known = tt
known_later h n m le (p ∷ ps) known = let k = known.0 in ((k.0, k.1, low k.0 n m k.2 le, k.3), known_later h n m le ps known.1)
  where
    low : (s n m : ℕ) → s ≤ n → n ≤ m → s ≤ m
    low s n m e f = omega (arith, e, f)

-- up to a revision each of them that was there is the set's own
abbrev pub Upto : Owner → History → ℕ → List Data → Type 0
Upto o h n ps = (r : ℕ) (k : Key) (d : Data) → r ≤ n → k.kind ≡ Pod → state h r k ≡ Some d → is_among ps d ≡ true → IsOfSet o h d

-- what the next write puts in the place of a pod of the set is one
abbrev pub Onward : Owner → History → ℕ → Type 0
Onward o h n = (k : Key) (was new : Data) → k.kind ≡ Pod → state h n k ≡ Some was → state h (n + 1) k ≡ Some new → uid was ≡ uid new → IsOfSet o h was → IsOfSet o h new

module _ (o : Owner) (pods : List Data) (h : History) (reached : IsReached h) where
  one_of : (n : ℕ) (d : Data) (ps : List Data) → Known h n ps → is_among ps d ≡ true → (p : Data) × (s : ℕ) × (l : Key) × (s ≤ n) × (state h s l ≡ Some p) × (uid d ≡ uid p)
  one_of n d [] known is = cc
  one_of n d (p ∷ ps) known is = by (have_one_uid d p) refl is (one_of n d ps known.1)
    where
      by : (b : Bool) → have_one_uid d p ≡ b → (b || is_among ps d) ≡ true → (is_among ps d ≡ true → (p : Data) × (s : ℕ) × (l : Key) × (s ≤ n) × (state h s l ≡ Some p) × (uid d ≡ uid p))
          → (p : Data) × (s : ℕ) × (l : Key) × (s ≤ n) × (state h s l ≡ Some p) × (uid d ≡ uid p)
      by true same e later = let k = known.0 in (p, k.0, k.1, k.2, k.3, same_uid (uid d) (uid p) same)
      by false other e later = later e

  up : (n m : ℕ) → n + 1 ≤ m → n ≤ m
  up n m le = omega (arith, le)

  over : (s n m : ℕ) → s ≤ n → n + 1 ≤ m → s ≤ m
  over s n m e f = omega (arith, e, f)

  next : (n : ℕ) → n ≤ n + 1
  next n = omega arith

  -- one of them that is there after a write was there before it
  stood : (n : ℕ) → n + 1 ≤ present h → (s : ℕ) (l k : Key) (p d : Data) → s ≤ n → state h s l ≡ Some p → state h (n + 1) k ≡ Some d → uid d ≡ uid p → (was : Data) × (state h n k ≡ Some was) × (uid was ≡ uid d)
  stood n le s l k p d low at now same =
      let key : l ≡ k = once h s (n + 1) l k p d reached (over s n (present h) low le) le at now (sym same) in
      let was = stand h s n (n + 1) k p d reached low (next n) le (ap (state h s) (sym key) ∙ at) now (sym same) in
      (was.0, was.1, was.2)

  among_one_uid : (d e : Data) (ps : List Data) → uid d ≡ uid e → is_among ps d ≡ is_among ps e
  among_one_uid d e ps same = ap (λ u. list_any (λ p. is_some_and (λ t. is_text t (uid p)) u) ps) same

  either : (r n : ℕ) → r ≤ n + 1 → (r ≤ n) ⊎ (r ≡ n + 1)
  either r n le = by (le_or r n)
    where
      by : (r ≤ n) ⊎ (n + 1 ≤ r) → (r ≤ n) ⊎ (r ≡ n + 1)
      by (inl e) = inl e
      by (inr e) = inr (omega (arith, le, e))

  pub one_more : (n : ℕ) → n + 1 ≤ present h → Known h n pods → Onward o h n → Upto o h n pods → Upto o h (n + 1) pods
  one_more n le known onward upto r k d low pod at is = by (either r n low)
    where
      by : (r ≤ n) ⊎ (r ≡ n + 1) → IsOfSet o h d
      by (inl e) = upto r k d e pod at is
      by (inr e) =
          let now : state h (n + 1) k ≡ Some d = ap (λ m. state h m k) (sym e) ∙ at in
          let p = one_of n d pods known is in
          let was = stood n le p.1 p.2 k p.0 d p.3 p.4 now p.5 in
          onward k was.0 d pod was.1 now was.2 (upto n k was.0 (still n) pod was.1 (among_one_uid was.0 d pods was.2 ∙ is))
        where
          still : (n : ℕ) → n ≤ n
          still n = omega arith

  -- over many writes
  pub many_more : (i n m : ℕ) → m ≡ n + i → m ≤ present h → Known h n pods → ((r : ℕ) → n ≤ r → r + 1 ≤ m → Onward o h r) → Upto o h n pods → Upto o h m pods
  many_more zero n m is le known onward upto = subst (λ x. Upto o h x pods) (plain n m is) upto
    where
      plain : (n m : ℕ) → m ≡ n + 0 → n ≡ m
      plain n m is = omega (arith, is)
  many_more (suc i) n m is le known onward upto =
      subst (λ x. Upto o h x pods) (whole n m i is)
      (one_more (m - 1) (subst (λ x. x ≤ present h) (sym (whole n m i is)) le) (known_later h n (m - 1) (first n m i is) pods known) (onward (m - 1) (first n m i is) (last n m i is))
      (many_more i n (m - 1) (less n m i is) (low m (present h) le) known (λ r a b. onward r a (further r m b)) upto))
    where
      whole : (n m i : ℕ) → m ≡ n + suc i → m - 1 + 1 ≡ m
      whole n m i is = omega (arith, is)

      first : (n m i : ℕ) → m ≡ n + suc i → n ≤ m - 1
      first n m i is = omega (arith, is)

      last : (n m i : ℕ) → m ≡ n + suc i → m - 1 + 1 ≤ m
      last n m i is = omega (arith, is)

      less : (n m i : ℕ) → m ≡ n + suc i → m - 1 ≡ n + i
      less n m i is = omega (arith, is)

      low : (m k : ℕ) → m ≤ k → m - 1 ≤ k
      low m k le = omega (arith, le)

      further : (r m : ℕ) → r + 1 ≤ m - 1 → r + 1 ≤ m
      further r m le = omega (arith, le)

  -- with a pod more, which was not there before
  pub with_new : (n : ℕ) → n + 1 ≤ present h → (key : Key) (new : Data) → state h (n + 1) key ≡ Some new → state h n key ≡ None → IsOfSet o h new → Upto o h (n + 1) pods → Upto o h (n + 1) (pods ++ new ∷ [])
  with_new n le key new now none is upto r k d low pod at among = by (any_last pods among)
    where
      any_last : (ps : List Data) → list_any (have_one_uid d) (ps ++ new ∷ []) ≡ true → (is_among ps d ≡ true) ⊎ (have_one_uid d new ≡ true)
      any_last [] e = last (have_one_uid d new) refl e
        where
          last : (b : Bool) → have_one_uid d new ≡ b → (b || false) ≡ true → (false ≡ true) ⊎ (have_one_uid d new ≡ true)
          last true f e = inr f
          last false f e = inl e
      any_last (p ∷ ps) e = first (have_one_uid d p) e (any_last ps)
        where
          more : (is_among ps d ≡ true) ⊎ (have_one_uid d new ≡ true) → ((false || is_among ps d) ≡ true) ⊎ (have_one_uid d new ≡ true)
          more (inl f) = inl f
          more (inr f) = inr f

          first : (b : Bool) → (b || list_any (have_one_uid d) (ps ++ new ∷ [])) ≡ true → (list_any (have_one_uid d) (ps ++ new ∷ []) ≡ true → (is_among ps d ≡ true) ⊎ (have_one_uid d new ≡ true)) → ((b || is_among ps d) ≡ true) ⊎ (have_one_uid d new ≡ true)
          first true e later = inl refl
          first false e later = more (later e)

      at_new : uid d ≡ uid new → (r ≤ n) ⊎ (r ≡ n + 1) → IsOfSet o h d
      at_new same (inl e) =
          let was = stood n le r k key d new e at now (sym same) in
          let no = sym none ∙ was.1 in cc
      at_new same (inr e) =
          let here : state h (n + 1) k ≡ Some d = ap (λ m. state h m k) (sym e) ∙ at in
          let one : k ≡ key = once h (n + 1) (n + 1) k key d new reached le le here now same in
          let some : Some new ≡ Some d = sym now ∙ ap (state h (n + 1)) (sym one) ∙ here in
          subst (IsOfSet o h) (object_of some) is
        where
          object_of : Some new ≡ Some d → new ≡ d
          object_of f = cc

      by : (is_among pods d ≡ true) ⊎ (have_one_uid d new ≡ true) → IsOfSet o h d
      by (inl e) = upto r k d low pod at e
      by (inr e) = at_new (same_uid (uid d) (uid new) e) (either r n low)
