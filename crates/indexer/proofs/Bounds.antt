-- What lies between the first link to a uid and the first past it, and between the first key of a namespace and the first past it.
use Rattle.std.proofs.Common.{◌≡◌, ◌&&◌, ◌∙◌, ◌++◌, ℕ, zero, suc, List, [], ◌∷◌, true, not, is_eq, is_le, is_lt, nat_cmp, Ordering, Less, Equal, Greater, refl, ap, arith, string_bytes}
use Rattle.std.proofs.lemmas.Map.Text.{is_eq-slice_cmp}
use Rattle.std.specs.Str.{bytes_eq}
use Rattle.std.specs.Ordering.{ordering_then}
use Rattle.std.specs.Cmp.Lexicographic.{slice_cmp}
use Rattle.std.specs.BTreeMap.Range.{range_contains}
use Rattle.std.specs.declared.ops.Bound.TheVariants.{Included, Excluded}
use Rattle.spec_api.specs.Kinds.{rank}
use Rattle.spec_api.specs.declared.kinds.Kind.{Kind}
use Rattle.spec_api.specs.Keys.{Key as Name, key_cmp as name_cmp}
use Rattle.spec_api.proofs.NextTexts.{nil_first, then_next, zero_next}
use Rattle.object_keys.specs.Keys.{key_of}
use Rattle.object_keys.specs.declared.key.Key.{Key}
use Rattle.object_keys.proofs.KeyOrder.{key_cmp-name_cmp}
use Rattle.indexer.specs.Links.{link_of, link_cmp, first_name, first_link}
use Rattle.indexer.specs.declared.links.OwnerLink.{OwnerLink}
use Rattle.indexer.proofs.LinkSets.{pair_cmp, link_cmp-pair}
use Rattle.reflector.proofs.SeenMaps.{key_cmp}

-- ---- texts

then_least : (o r : Ordering) → is_le r ≡ true → is_le (ordering_then o r) ≡ is_le o
then_least Less r least = refl
then_least Equal r least = least
then_least Greater r least = refl

just_equal : (o : Ordering) → (is_le o && not (is_lt o)) ≡ is_eq o
just_equal Less = refl
just_equal Equal = refl
just_equal Greater = refl

-- what begins with a text lies from there to the text and a zero
text_between : (s t : List ℕ) (r q : Ordering) → is_le r ≡ true → is_le q ≡ true → (is_le (ordering_then (slice_cmp nat_cmp s t) r) && not (is_le (ordering_then (slice_cmp nat_cmp (s ++ 0 ∷ []) t) q))) ≡ bytes_eq s t
text_between s t r q first second =
    ap (λ b. b && not (is_le (ordering_then (slice_cmp nat_cmp (s ++ 0 ∷ []) t) q))) (then_least (slice_cmp nat_cmp s t) r first)
    ∙ ap (λ b. is_le (slice_cmp nat_cmp s t) && not b) (then_least (slice_cmp nat_cmp (s ++ 0 ∷ []) t) q second ∙ zero_next s t)
    ∙ just_equal (slice_cmp nat_cmp s t) ∙ is_eq-slice_cmp s t

-- ---- links

least_rank : (n : ℕ) → is_le (nat_cmp 0 n) ≡ true
least_rank zero = refl
least_rank (suc n) = grind arith

least_name : (n : Name) → is_le (name_cmp (first_link []).1 n) ≡ true
least_name n =
    then_least (nat_cmp 0 (rank n.kind)) (ordering_then (slice_cmp nat_cmp [] n.namespace) (slice_cmp nat_cmp [] n.name))
    (then_least (slice_cmp nat_cmp [] n.namespace) (slice_cmp nat_cmp [] n.name) (nil_first n.name) ∙ nil_first n.namespace)
    ∙ least_rank (rank n.kind)

link-pair : (a : OwnerLink) (p : List ℕ × Name) (q : OwnerLink) → link_of a ≡ p → is_le (link_cmp a q) ≡ is_le (pair_cmp p (link_of q))
link-pair a p q is = ap is_le (link_cmp-pair a q ∙ ap (λ p. pair_cmp p (link_of q)) is)

pub links_between : (u : List ℕ) (first past : OwnerLink) → link_of first ≡ first_link u → link_of past ≡ first_link (u ++ 0 ∷ []) → (q : OwnerLink)
    → range_contains link_cmp (Included first) (Excluded past) q ≡ bytes_eq u (string_bytes q.uid)
links_between u first past begins ends q =
    ap (λ b. b && not (is_le (link_cmp past q))) (link-pair first (first_link u) q begins)
    ∙ ap (λ b. is_le (pair_cmp (first_link u) (link_of q)) && not b) (link-pair past (first_link (u ++ 0 ∷ [])) q ends)
    ∙ text_between u (string_bytes q.uid) (name_cmp (first_link []).1 (key_of q.key)) (name_cmp (first_link []).1 (key_of q.key)) (least_name (key_of q.key)) (least_name (key_of q.key))

-- ---- keys of a kind in a namespace

kind_between : (o : Ordering) (s t : List ℕ) (r q : Ordering) → is_le r ≡ true → is_le q ≡ true
    → (is_le (ordering_then o (ordering_then (slice_cmp nat_cmp s t) r)) && not (is_le (ordering_then o (ordering_then (slice_cmp nat_cmp (s ++ 0 ∷ []) t) q)))) ≡ (is_eq o && bytes_eq s t)
kind_between Less s t r q first second = refl
kind_between Equal s t r q first second = text_between s t r q first second
kind_between Greater s t r q first second = refl

key-name : (a : Key) (n : Name) (k : Key) → key_of a ≡ n → is_le (key_cmp a k) ≡ is_le (name_cmp n (key_of k))
key-name a n k named = ap is_le (key_cmp-name_cmp a k ∙ ap (λ n. name_cmp n (key_of k)) named)

pub keys_between : (j : Kind) (s : List ℕ) (first past : Key) → key_of first ≡ first_name j s → key_of past ≡ first_name j (s ++ 0 ∷ []) → (k : Key)
    → range_contains key_cmp (Included first) (Excluded past) k ≡ (is_eq (nat_cmp (rank j) (rank k.kind)) && bytes_eq s (string_bytes k.namespace))
keys_between j s first past begins ends k =
    ap (λ b. b && not (is_le (key_cmp past k))) (key-name first (first_name j s) k begins)
    ∙ ap (λ b. is_le (name_cmp (first_name j s) (key_of k)) && not b) (key-name past (first_name j (s ++ 0 ∷ [])) k ends)
    ∙ kind_between (nat_cmp (rank j) (rank k.kind)) s (string_bytes k.namespace) (slice_cmp nat_cmp [] (string_bytes k.name)) (slice_cmp nat_cmp [] (string_bytes k.name)) (nil_first (string_bytes k.name))
    (nil_first (string_bytes k.name))
