-- Lists in order are equal where the same is found under each key.
use Rattle.std.proofs.Common.{◌≡◌, [], ◌∷◌, Bool, true, false, cond, Option, Some, None, Ordering, Less, Equal, Greater, is_eq, refl, sym, ap, ◌∙◌, subst}
use Rattle.std.specs.Ordering.{ordering_reverse}
use Rattle.serde_json.specs.Data.{Data}
use Rattle.spec_api.specs.Keys.{Key, key_cmp, is_same_key}
use Rattle.spec_api.specs.History.{Entries, found}
use Rattle.spec_api.proofs.PutLaws.{IsAbove, IsAscending, IsAbove-below, none_above, name_cmp_total, same_name}

pub itself : (k : Key) → key_cmp k k ≡ Equal
itself k = by (key_cmp k k) (name_cmp_total.antisymm k k)
  where
    by : (r : Ordering) → r ≡ ordering_reverse r → r ≡ Equal
    by Less h = cc
    by Equal h = refl
    by Greater h = cc

some_none : {X : Type 0} (x : X) → Some x ≡ None → ⊥
some_none x h = cc

pub head_found : (m : Key × Data) (ms : Entries) → found m.0 (m ∷ ms) ≡ Some m.1
head_found m ms = ap (λ r. cond (is_eq r) (Some m.1) (found m.0 ms)) (itself m.0)

below_none : (q : Key) (m : Key × Data) (ms : Entries) → key_cmp q m.0 ≡ Less → IsAscending key_cmp (m ∷ ms) → found q (m ∷ ms) ≡ None
below_none q m ms less a = none_above name_cmp_total q (m ∷ ms) (less, IsAbove-below name_cmp_total q m.0 ms less a.0)

heads_at : (m n : Key × Data) (ms ns : Entries) (r : Ordering) → key_cmp m.0 n.0 ≡ r → IsAscending key_cmp (m ∷ ms) → IsAscending key_cmp (n ∷ ns) → ((q : Key) → found q (m ∷ ms) ≡ found q (n ∷ ns)) → is_eq r ≡ true
heads_at m n ms ns Less at a b h = absurd (some_none m.1 (sym (head_found m ms) ∙ h m.0 ∙ below_none m.0 n ns at b))
heads_at m n ms ns Equal at a b h = refl
heads_at m n ms ns Greater at a b h =
    let less : key_cmp n.0 m.0 ≡ Less = name_cmp_total.antisymm n.0 m.0 ∙ ap ordering_reverse at in
    absurd (some_none n.1 (sym (head_found n ns) ∙ sym (h n.0) ∙ below_none n.0 m ms less a))

-- past the head, what is found is found in the rest
rest_found : (q : Key) (k : Key) (d : Data) (ms ns : Entries) → IsAbove key_cmp k ms → IsAbove key_cmp k ns → cond (is_same_key q k) (Some d) (found q ms) ≡ cond (is_same_key q k) (Some d) (found q ns) → found q ms ≡ found q ns
rest_found q k d ms ns a b h = by (is_same_key q k) refl h
  where
    by : (c : Bool) → is_same_key q k ≡ c → cond c (Some d) (found q ms) ≡ cond c (Some d) (found q ns) → found q ms ≡ found q ns
    by true is h =
        let one : q ≡ k = same_name q k is in
        ap (λ z. found z ms) one ∙ none_above name_cmp_total k ms a ∙ sym (ap (λ z. found z ns) one ∙ none_above name_cmp_total k ns b)
    by false is h = h

pub same_found : (ms ns : Entries) → IsAscending key_cmp ms → IsAscending key_cmp ns → ((q : Key) → found q ms ≡ found q ns) → ms ≡ ns
same_found [] [] a b h = refl
same_found [] (n ∷ ns) a b h = absurd (some_none n.1 (sym (head_found n ns) ∙ sym (h n.0)))
same_found (m ∷ ms) [] a b h = absurd (some_none m.1 (sym (head_found m ms) ∙ h m.0))
same_found (m ∷ ms) (n ∷ ns) a b h =
    let key : m.0 ≡ n.0 = same_name m.0 n.0 (heads_at m n ms ns (key_cmp m.0 n.0) refl a b h) in
    let here : found n.0 (n ∷ ns) ≡ found m.0 (m ∷ ms) = ap (λ z. found z (n ∷ ns)) (sym key) ∙ sym (h m.0) in
    let alike : Some m.1 ≡ Some n.1 = sym (head_found m ms) ∙ sym here ∙ head_found n ns in
    let one : m.1 ≡ n.1 = cc in
    let up : IsAbove key_cmp m.0 ns = subst (λ z. IsAbove key_cmp z ns) (sym key) b.0 in
    let rest : (q : Key) → found q ms ≡ found q ns =
    λ q. rest_found q m.0 m.1 ms ns a.0 up (h q ∙ ap (λ z. cond (is_same_key q z) (Some n.1) (found q ns)) (sym key) ∙ ap (λ z. cond (is_same_key q m.0) (Some z) (found q ns)) (sym one))
    in
    let tails : ms ≡ ns = same_found ms ns a.1 b.1 rest in
    λ i. (key i, one i) ∷ tails i
