-- What a list that is taken in shows of a set's pods.
use Rattle.std.proofs.Common.{◌≡◌, ◌≤◌, ◌+◌, ℕ, List, [], ◌∷◌, ◌++◌, map, filter, flat_map, Bool, true, false, cond, is_some, Option, Some, None, Ordering, Less, Equal, Greater, is_eq, refl, sym, ap, ◌∙◌, subst, arith}
use Rattle.std.specs.Ordering.{ordering_reverse}
use Rattle.std.specs.BTreeMap.{insert_entry}
use Rattle.serde_json.specs.Data.{Data}
use Rattle.spec_api.specs.declared.kinds.Kind.{Kind}
use Rattle.spec_api.specs.declared.kinds.Kind.TheVariants.{ConfigMap, Pod, ReplicaSet, Deployment}
use Rattle.spec_api.specs.History.{History, Entries, entries_at, up_to, found, list, unfiltered, in_view}
use Rattle.spec_api.specs.Keys.{Key, key_cmp}
use Rattle.spec_api.specs.Metadata.{uid}
use Rattle.spec_api.proofs.PutLaws.{name_cmp_total, IsAscending, IsAbove, none_above, IsAscending-put, IsAscending-filter, IsAscending-after_all}
use Rattle.spec_client_go.specs.Boards.{Observation, deletion_observed}
use Rattle.spec_client_go.specs.Expectations.{Owner}
use Rattle.spec_client_go.specs.OwedKeys.{one_of}
use Rattle.spec_client_go.specs.Shifts.{Shift, overlaid, shift_at, is_change, shifts_between}
use Rattle.spec_client_go.proofs.WorkKeyOrder.{name_tells}
use Rattle.spec_sim.specs.PodObservations.{observations_by, observations_of_pod, sets_of, deletion}
use Rattle.spec_sim.specs.Followers.{notified}
use Rattle.sim_overshoot_laws.specs.Reserves.{shown, to_be_seen}
use Rattle.sim_overshoot_laws.specs.StockLaws.{stock, of_one, shown_at, ListsShowWhatIsNew}
use Rattle.sim_overshoot_laws.proofs.Stocks.{stock_after}

-- ---- entries over entries

module _ (f : Key → ℕ) where
  -- what counts of keys that are not among these
  abbrev beside : Entries → Key → Data → ℕ
  beside es k d = cond (is_some (found k es)) 0 (f k)

  apart : (a b : Key) (e : Data) (x : Option Data) (r : Ordering) → key_cmp a b ≡ r → is_eq r ≡ false → cond (is_eq (key_cmp b a)) (Some e) x ≡ x
  apart a b e x Less is off = ap (λ r. cond (is_eq r) (Some e) x) (name_cmp_total.antisymm b a ∙ ap ordering_reverse is)
  apart a b e x Equal is off = cc
  apart a b e x Greater is off = ap (λ r. cond (is_eq r) (Some e) x) (name_cmp_total.antisymm b a ∙ ap ordering_reverse is)

  same : (m s t a : ℕ) → s + a ≡ t → (m + s) + a ≡ m + t
  same m s t a e = omega arith

  here : (z x y s t a : ℕ) → z ≡ 0 → x ≡ y → s + a ≡ t → a ≡ 0 → (z + s) + x ≡ y + t
  here z x y s t a e g h i = omega arith

  one_at : (e : Key × Data) (es : Entries) (m : Key × Data) (ms : Entries) (r : Ordering) → key_cmp e.0 m.0 ≡ r → IsAbove key_cmp m.0 ms
      → stock (beside (e ∷ es)) ms + of_one (beside es) e.0 (found e.0 ms) ≡ stock (beside es) ms
      → stock (beside (e ∷ es)) (m ∷ ms) + of_one (beside es) e.0 (cond (is_eq r) (Some m.1) (found e.0 ms)) ≡ stock (beside es) (m ∷ ms)
  one_at e es m ms Less is up more =
      ap (λ x. (cond (is_some x) 0 (f m.0) + stock (beside (e ∷ es)) ms) + of_one (beside es) e.0 (found e.0 ms)) (apart e.0 m.0 e.1 (found m.0 es) Less is refl)
      ∙ same (beside es m.0 m.1) (stock (beside (e ∷ es)) ms) (stock (beside es) ms) (of_one (beside es) e.0 (found e.0 ms)) more
  one_at e es m ms Greater is up more =
      ap (λ x. (cond (is_some x) 0 (f m.0) + stock (beside (e ∷ es)) ms) + of_one (beside es) e.0 (found e.0 ms)) (apart e.0 m.0 e.1 (found m.0 es) Greater is refl)
      ∙ same (beside es m.0 m.1) (stock (beside (e ∷ es)) ms) (stock (beside es) ms) (of_one (beside es) e.0 (found e.0 ms)) more
  one_at e es m ms Equal is up more =
      let one : e.0 ≡ m.0 = name_tells e.0 m.0 is in
      let tied : key_cmp m.0 e.0 ≡ Equal = name_cmp_total.antisymm m.0 e.0 ∙ ap ordering_reverse is in
      let zero : beside (e ∷ es) m.0 m.1 ≡ 0 = ap (λ r. cond (is_some (cond (is_eq r) (Some e.1) (found m.0 es))) 0 (f m.0)) tied in
      let none : found e.0 ms ≡ None = none_above name_cmp_total e.0 ms (subst (λ k. IsAbove key_cmp k ms) (sym one) up) in
      here (beside (e ∷ es) m.0 m.1) (beside es e.0 m.1) (beside es m.0 m.1) (stock (beside (e ∷ es)) ms) (stock (beside es) ms) (of_one (beside es) e.0 (found e.0 ms)) zero (ap (λ k. beside es k m.1) one) more
      (ap (of_one (beside es) e.0) none)

  one : (e : Key × Data) (es ms : Entries) → IsAscending key_cmp ms → stock (beside (e ∷ es)) ms + of_one (beside es) e.0 (found e.0 ms) ≡ stock (beside es) ms
  one e es [] a = refl
  one e es (m ∷ ms) a = one_at e es m ms (key_cmp e.0 m.0) refl a.0 (one e es ms a.1)

  all : (x a s t g h r : ℕ) → x + a ≡ s + g → t + a ≡ s → g ≡ h → x + r ≡ t + (h + r)
  all x a s t g h r e i j = omega arith

  over : (ms es : Entries) → IsAscending key_cmp ms → IsAscending key_cmp es → stock (λ k d. f k) (overlaid ms es) ≡ stock (beside es) ms + stock (λ k d. f k) es
  over ms [] a b = plain (stock (λ k d. f k) ms)
    where
      plain : (n : ℕ) → n ≡ n + 0
      plain n = omega arith
  over ms (e ∷ es) a b =
      let none : found e.0 es ≡ None = none_above name_cmp_total e.0 es b.0 in
      over (insert_entry key_cmp ms e.0 e.1) es (IsAscending-put name_cmp_total e.0 e.1 ms a) b.1
      ∙ all (stock (beside es) (insert_entry key_cmp ms e.0 e.1)) (of_one (beside es) e.0 (found e.0 ms)) (stock (beside es) ms) (stock (beside (e ∷ es)) ms) (beside es e.0 e.1) (f e.0) (stock (λ k d. f k) es)
      (stock_after (beside es) e.0 (Some e.1) ms a) (one e es ms a) (ap (λ x. cond (is_some x) 0 (f e.0)) none)

  none_beside : (es ms : Entries) → ((k : Key) → found k es ≡ None → f k ≡ 0) → stock (beside es) ms ≡ 0
  none_beside es [] z = refl
  none_beside es (m ∷ ms) z = both (beside es m.0 m.1) (stock (beside es) ms) (by (found m.0 es) refl) (none_beside es ms z)
    where
      both : (a b : ℕ) → a ≡ 0 → b ≡ 0 → a + b ≡ 0
      both a b e g = omega arith

      by : (x : Option Data) → found m.0 es ≡ x → cond (is_some x) 0 (f m.0) ≡ 0
      by None e = z m.0 e
      by (Some d) e = refl

  -- what counts under the keys of both counts under those of the later ones
  pub overlays : (old new : Entries) → IsAscending key_cmp old → IsAscending key_cmp new → ((k : Key) → found k new ≡ None → f k ≡ 0) → stock (λ k d. f k) (overlaid old new) ≡ stock (λ k d. f k) new
  overlays old new a b z = less (stock (beside new) old) _ _ (over old new a b) (none_beside new old z)
    where
      less : (a x s : ℕ) → x ≡ a + s → a ≡ 0 → x ≡ s
      less a x s e g = omega arith

-- ---- what shifts show

module _ (o : Owner) where
  pub shown-append : (ss ts : List Observation) → shown o (ss ++ ts) ≡ shown o ss + shown o ts
  shown-append [] ts = omega arith
  shown-append (s ∷ ss) ts = adds _ _ _ _ (shown-append ss ts)
    where
      adds : (x a b c : ℕ) → a ≡ b + c → x + a ≡ (x + b) + c
      adds x a b c e = omega arith

  deletions : (os : List Owner) (u : List ℕ) → shown o (map (λ p. deletion_observed p u) os) ≡ 0
  deletions [] u = refl
  deletions (p ∷ os) u = plus _ (deletions os u)
    where
      plus : (n : ℕ) → n ≡ 0 → 0 + n ≡ 0
      plus n e = omega arith

  pub no_creation : (pod : Data) (us : List (List ℕ)) → shown o (flat_map (λ u. map (λ p. deletion_observed p u) (sets_of pod)) us) ≡ 0
  no_creation pod [] = refl
  no_creation pod (u ∷ us) =
      plus _ _ _ (shown-append (map (λ p. deletion_observed p u) (sets_of pod)) (flat_map (λ v. map (λ p. deletion_observed p v) (sets_of pod)) us)) (deletions (sets_of pod) u) (no_creation pod us)
    where
      plus : (n a b : ℕ) → n ≡ a + b → a ≡ 0 → b ≡ 0 → n ≡ 0
      plus n a b e g h = omega arith

  gone_if : (b : Bool) (pod : Data) → shown o (cond b [] (deletion pod)) ≡ 0
  gone_if true pod = refl
  gone_if false pod = no_creation pod (one_of (uid pod))

  gone : (old : Option Data) → shown o (observations_of_pod old None) ≡ 0
  gone None = refl
  gone (Some pod) =
      plus _ _ (shown-append ((cond false [] (deletion pod)) ++ []) []) (shown-append (deletion pod) []) (gone_if false pod)
    where
      plus : (n a : ℕ) → n ≡ a + 0 → a ≡ shown o (deletion pod) + 0 → shown o (deletion pod) ≡ 0 → n ≡ 0
      plus n a e g h = omega arith

  pub shows_nothing : (k : Kind) (s : Shift) → s.new ≡ None → shown o (observations_by k s) ≡ 0
  shows_nothing ConfigMap s e = refl
  shows_nothing Pod s e = ap (λ x. shown o (observations_of_pod s.old x)) e ∙ gone s.old
  shows_nothing ReplicaSet s e = refl
  shows_nothing Deployment s e = refl

  module _ (old new : Entries) where
    most : (b : Bool) (s : Shift) (ss : List Shift) (n : ℕ) → to_be_seen o (notified false ss) ≤ n → to_be_seen o (notified false (cond b (s ∷ ss) ss)) ≤ shown o (observations_by s.key.kind s) + n
    most true s ss n e = adds _ _ _ e
      where
        adds : (x a b : ℕ) → a ≤ b → x + a ≤ x + b
        adds x a b e = omega arith
    most false s ss n e = adds _ _ _ e
      where
        adds : (x a b : ℕ) → a ≤ b → a ≤ x + b
        adds x a b e = omega arith

    of_shifts : (es : Entries) → to_be_seen o (notified false (filter is_change (map (λ e. shift_at old new e.0) es))) ≤ stock (λ k d. shown_at o old new k) es
    of_shifts [] = omega arith
    of_shifts (e ∷ es) = most (is_change (shift_at old new e.0)) (shift_at old new e.0) (filter is_change (map (λ x. shift_at old new x.0) es)) (stock (λ k d. shown_at o old new k) es) (of_shifts es)

pub ascending : (h : History) (r : ℕ) → IsAscending key_cmp (list h (unfiltered Pod None) r)
ascending h r = IsAscending-filter key_cmp (λ m. in_view (unfiltered Pod None) m.0 m.1) (entries_at h r) (IsAscending-after_all [] (up_to r h) tt)

pub lists_show : ListsShowWhatIsNew
lists_show o h r s =
    let old = list h (unfiltered Pod None) r in
    let new = list h (unfiltered Pod None) s in
    subst (λ n. to_be_seen o (notified false (shifts_between old new)) ≤ n)
    (overlays (shown_at o old new) old new (ascending h r) (ascending h s) (λ k none. shows_nothing o k.kind (shift_at old new k) none)) (of_shifts o old new (overlaid old new))
