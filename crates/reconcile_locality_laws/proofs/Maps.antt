-- Maps in order: what is found in them, what is left of them by a test, and when that is the same.
use Rattle.std.proofs.Common.{◌≡◌, ◌⊎◌, inl, inr, [], ◌∷◌, Bool, true, false, cond, filter, Option, Some, None, IfSome, Ordering, Less, Equal, Greater, is_eq, refl, sym, ap, ◌∙◌, subst}
use Rattle.std.specs.List.{AllByRecursion}
use Rattle.std.specs.List.Sorted.{IsStrictlySortedBy}
use Rattle.std.specs.Map.{keys_of}
use Rattle.std.specs.Ordering.{ordering_reverse}
use Rattle.serde_json.specs.Data.{Data}
use Rattle.spec_api.specs.Keys.{Key, key_cmp, is_same_key}
use Rattle.spec_api.specs.History.{Entries, found}
use Rattle.spec_api.proofs.PutLaws.{IsAbove, IsAscending, IsAscending-filter, IsAbove-below, none_above, name_cmp_total, same_name}
use Rattle.spec_api.proofs.SameFound.{head_found, itself, same_found}
use Rattle.reconcile_locality_laws.proofs.Elements.{In}

-- ---- lists in order

above_from : (k : Key) (ms : Entries) → AllByRecursion (λ y. key_cmp k y ≡ Less) (keys_of ms) → IsAbove key_cmp k ms
above_from k [] h = tt
above_from k (m ∷ ms) h = (h.0, above_from k ms h.1)

pub ascending_from : (ms : Entries) → IsStrictlySortedBy key_cmp (keys_of ms) → IsAscending key_cmp ms
unfolding IsStrictlySortedBy
ascending_from [] h = tt
ascending_from (m ∷ ms) h = (above_from m.0 ms h.0, ascending_from ms h.1)

pub same_key : (k : Key) → is_same_key k k ≡ true
same_key k = ap is_eq (itself k)

-- ---- what is found is there

pub found_in : (k : Key) (ms : Entries) (d : Data) → found k ms ≡ Some d → In ms (k, d)
found_in k [] d h = cc
found_in k (m ∷ ms) d h = by (is_same_key k m.0) refl (found_in k ms d) h
  where
    by : (b : Bool) → is_same_key k m.0 ≡ b → (found k ms ≡ Some d → In ms (k, d)) → cond b (Some m.1) (found k ms) ≡ Some d → In (m ∷ ms) (k, d)
    by true e rest h = let key : m.0 ≡ k = sym (same_name k m.0 e) in let one : m.1 ≡ d = cc in inl (λ i. (key i, one i))
    by false e rest h = inr (rest h)

above_in : (k : Key) (ms : Entries) (m : Key × Data) → IsAbove key_cmp k ms → In ms m → key_cmp k m.0 ≡ Less
above_in k [] m a i = absurd i
above_in k (n ∷ ms) m a (inl is) = subst (λ (x : Key × Data). key_cmp k x.0 ≡ Less) is a.0
above_in k (n ∷ ms) m a (inr i) = above_in k ms m a.1 i

pub in_found : (ms : Entries) (m : Key × Data) → IsAscending key_cmp ms → In ms m → found m.0 ms ≡ Some m.1
in_found [] m a i = absurd i
in_found (n ∷ ms) m a (inl is) = subst (λ (x : Key × Data). found x.0 (n ∷ ms) ≡ Some x.1) is (head_found n ms)
in_found (n ∷ ms) m a (inr i) =
    let apart : is_same_key m.0 n.0 ≡ false = ap is_eq (name_cmp_total.antisymm m.0 n.0 ∙ ap ordering_reverse (above_in n.0 ms m a.0 i)) in
    ap (λ b. cond b (Some n.1) (found m.0 ms)) apart ∙ in_found ms m a.1 i

-- ---- what is left by a test

module _ (q : Key × Data → Bool) where
  -- what is left of an object under a key
  pub left_of : Key → Option Data → Option Data
  left_of k None = None
  left_of k (Some d) = cond (q (k, d)) (Some d) None

  left_at : (b c : Bool) (k : Key) (m : Key × Data) (ms rest : Entries) → q m ≡ b → is_same_key k m.0 ≡ c → IsAbove key_cmp m.0 ms → found k rest ≡ left_of k (found k ms)
      → found k (cond b (m ∷ rest) rest) ≡ left_of k (cond c (Some m.1) (found k ms))
  unfolding left_of
  left_at true true k m ms rest shows is a later =
      let here : q (k, m.1) ≡ true = ap (λ n. q (n, m.1)) (same_name k m.0 is) ∙ shows in
      ap (λ c. cond c (Some m.1) (found k rest)) is ∙ sym (ap (λ b. cond b (Some m.1) None) here)
  left_at false true k m ms rest shows is a later =
      let one : k ≡ m.0 = same_name k m.0 is in
      let here : q (k, m.1) ≡ false = ap (λ n. q (n, m.1)) one ∙ shows in
      let gone : found k ms ≡ None = ap (λ n. found n ms) one ∙ none_above name_cmp_total m.0 ms a in
      later ∙ ap (left_of k) gone ∙ sym (ap (λ b. cond b (Some m.1) None) here)
  left_at true false k m ms rest shows is a later = ap (λ c. cond c (Some m.1) (found k rest)) is ∙ later
  left_at false false k m ms rest shows is a later = later

  found_left : (k : Key) (ms : Entries) → IsAscending key_cmp ms → found k (filter q ms) ≡ left_of k (found k ms)
  unfolding left_of
  found_left k [] a = refl
  found_left k (m ∷ ms) a = left_at (q m) (is_same_key k m.0) k m ms (filter q ms) refl refl a.0 (found_left k ms a.1)

  -- nothing is left of an object that does not pass
  abbrev pub Fails : Key → Option Data → Type 0
  Fails k o = IfSome o (λ d. q (k, d) ≡ false)

  none_left : (k : Key) (o : Option Data) → Fails k o → left_of k o ≡ None
  unfolding left_of
  none_left k None f = refl
  none_left k (Some d) f = ap (λ b. cond b (Some d) None) f

  -- where each object that differs passes neither as it was nor as it is, the same is left
  pub same_left : (a b : Entries) → IsAscending key_cmp a → IsAscending key_cmp b → ((k : Key) → (found k a ≡ found k b) ⊎ (Fails k (found k a) × Fails k (found k b))) → filter q a ≡ filter q b
  same_left a b up high each =
      same_found (filter q a) (filter q b) (IsAscending-filter key_cmp q a up) (IsAscending-filter key_cmp q b high)
      (λ k. found_left k a up ∙ by k (each k) ∙ sym (found_left k b high))
    where
      by : (k : Key) → (found k a ≡ found k b) ⊎ (Fails k (found k a) × Fails k (found k b)) → left_of k (found k a) ≡ left_of k (found k b)
      by k (inl same) = ap (left_of k) same
      by k (inr none) = none_left k (found k a) none.0 ∙ sym (none_left k (found k b) none.1)
