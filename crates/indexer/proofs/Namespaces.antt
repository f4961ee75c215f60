-- The objects of a namespace, kind by kind.
use Rattle.std.proofs.Common.{◌≡◌, ◌&&◌, ◌++◌, ◌+◌, ◌<◌, ◌==◌, ℕ, List, [], ◌∷◌, length, Bool, true, false, cond, filter, flat_map, is_eq, is_le, is_lt, nat_cmp, Ordering, Less, Equal, Greater, refl, sym, ap, ◌∙◌, arith, string_bytes}
use Rattle.std.proofs.lemmas.Cmp.{nat_cmp_total, nat_list_cmp_total}
use Rattle.std.proofs.lemmas.Map.Text.{is_eq-slice_cmp}
use Rattle.std.proofs.lemmas.Option.{slice_get_within}
use Rattle.std.specs.List.{AllByRecursion}
use Rattle.std.specs.List.Sorted.{IsStrictlySortedBy}
use Rattle.std.specs.Map.{keys_of}
use Rattle.std.specs.Ordering.{ordering_then, ordering_reverse}
use Rattle.std.specs.Str.{bytes_eq}
use Rattle.std.specs.Cmp.Lexicographic.{slice_cmp}
use Rattle.serde_json.specs.Data.{Data}
use Rattle.spec_api.proofs.Truths.{left_true, right_true}
use Rattle.spec_api.specs.History.{Entries}
use Rattle.spec_api.specs.Kinds.{rank, kinds, kinds_at}
use Rattle.spec_api.specs.declared.kinds.Kind.{Kind}
use Rattle.spec_api.specs.Keys.{Key as Name, key_cmp as name_cmp}
use Rattle.spec_client_go.specs.Informers.{of_namespace}
use Rattle.object_keys.specs.Keys.{key_of}
use Rattle.object_keys.specs.declared.key.Key.{Key}
use Rattle.reflector.specs.declared.shared_objects.SharedObject.{SharedObject}
use Rattle.reflector.specs.Seen.{members_seen}
use Rattle.indexer.specs.Seen.{of_kind}
use Rattle.indexer.proofs.LinkSets.{is_eq-reverse}

-- ---- one kind after another

abbrev pub of_kinds : List Kind → List ℕ → Entries → Entries
of_kinds ks ns ms = flat_map (λ (k : Kind). of_kind k ns ms) ks

-- from a rank on
abbrev from : ℕ → List ℕ → Entries → Entries
from i ns ms = filter (λ (m : Name × Data). is_le (nat_cmp i (rank m.0.kind)) && bytes_eq ns m.0.namespace) ms

abbrev at : ℕ → List ℕ → Entries → Entries
at i ns ms = filter (λ (m : Name × Data). is_eq (nat_cmp i (rank m.0.kind)) && bytes_eq ns m.0.namespace) ms

abbrev past : ℕ → List ℕ → Entries → Entries
past i ns ms = filter (λ (m : Name × Data). is_lt (nat_cmp i (rank m.0.kind)) && bytes_eq ns m.0.namespace) ms

-- all have a rank past this one
abbrev ArePast : ℕ → Entries → Type 0
ArePast i ms = AllByRecursion (λ (m : Name × Data). nat_cmp i (rank m.0.kind) ≡ Less) ms

none_at : (i : ℕ) (ns : List ℕ) (ms : Entries) → ArePast i ms → at i ns ms ≡ []
none_at i ns [] all = refl
none_at i ns (m ∷ ms) all = ap (λ o. cond (is_eq o && bytes_eq ns m.0.namespace) (m ∷ at i ns ms) (at i ns ms)) all.0 ∙ none_at i ns ms all.1

all_past : (i : ℕ) (ns : List ℕ) (ms : Entries) → ArePast i ms → from i ns ms ≡ past i ns ms
all_past i ns [] all = refl
all_past i ns (m ∷ ms) all =
    ap (λ o. cond (is_le o && bytes_eq ns m.0.namespace) (m ∷ from i ns ms) (from i ns ms)) all.0 ∙ ap (λ l. cond (bytes_eq ns m.0.namespace) (m ∷ l) l) (all_past i ns ms all.1)
    ∙ ap (λ o. cond (is_lt o && bytes_eq ns m.0.namespace) (m ∷ past i ns ms) (past i ns ms)) (sym all.0)

-- a name after one that is past a rank is past it
rank_past : (i m n : ℕ) (o : Ordering) → nat_cmp i m ≡ Less → ordering_then (nat_cmp m n) o ≡ Less → nat_cmp i n ≡ Less
rank_past i m n o under is = by (nat_cmp m n) refl is
  where
    by : (r : Ordering) → nat_cmp m n ≡ r → ordering_then r o ≡ Less → nat_cmp i n ≡ Less
    by Less r is = nat_cmp_total.trans i m n under r
    by Equal r is = nat_cmp_total.antisymm i n ∙ ap ordering_reverse (sym (nat_cmp_total.congr m n i r)) ∙ sym (nat_cmp_total.antisymm i m) ∙ under
    by Greater r is = cc

later_past : (i : ℕ) (m : Name × Data) (ms : Entries) → nat_cmp i (rank m.0.kind) ≡ Less → AllByRecursion (λ (n : Name). name_cmp m.0 n ≡ Less) (keys_of ms) → ArePast i ms
later_past i m [] is above = tt
later_past i m (n ∷ ms) is above =
    (rank_past i (rank m.0.kind) (rank n.0.kind) (ordering_then (slice_cmp nat_cmp m.0.namespace n.0.namespace) (slice_cmp nat_cmp m.0.name n.0.name)) is above.0, later_past i m ms is above.1)

-- what is at a rank comes before what is past it
split : (i : ℕ) (ns : List ℕ) (ms : Entries) → IsStrictlySortedBy name_cmp (keys_of ms) → from i ns ms ≡ at i ns ms ++ past i ns ms
unfolding IsStrictlySortedBy
split i ns [] sorted = refl
split i ns (m ∷ ms) sorted = by (nat_cmp i (rank m.0.kind)) (bytes_eq ns m.0.namespace) refl (split i ns ms sorted.1)
  where
    by : (o : Ordering) (b : Bool) → nat_cmp i (rank m.0.kind) ≡ o → from i ns ms ≡ at i ns ms ++ past i ns ms
        → cond (is_le o && b) (m ∷ from i ns ms) (from i ns ms) ≡ cond (is_eq o && b) (m ∷ at i ns ms) (at i ns ms) ++ cond (is_lt o && b) (m ∷ past i ns ms) (past i ns ms)
    by Less true is rest =
        let over = later_past i m ms is sorted.0 in ap (λ l. m ∷ l) (all_past i ns ms over) ∙ ap (λ l. l ++ (m ∷ past i ns ms)) (sym (none_at i ns ms over))
    by Less false is rest = rest
    by Equal true is rest = ap (λ l. m ∷ l) rest
    by Equal false is rest = rest
    by Greater b is rest = rest

next_rank : (i n : ℕ) → is_lt (nat_cmp i n) ≡ is_le (nat_cmp (i + 1) n)
next_rank i n = grind arith

next : (i : ℕ) (ns : List ℕ) (ms : Entries) → past i ns ms ≡ from (i + 1) ns ms
next i ns ms = ap (λ t. filter t ms) (λ j. λ (m : Name × Data). next_rank i (rank m.0.kind) j && bytes_eq ns m.0.namespace)

all_ranks : (n : ℕ) → is_le (nat_cmp 0 n) ≡ true
all_ranks n = grind arith

turned : (s t : List ℕ) → bytes_eq s t ≡ bytes_eq t s
turned s t = sym (is_eq-slice_cmp s t) ∙ ap is_eq (nat_list_cmp_total.antisymm s t) ∙ is_eq-reverse (slice_cmp nat_cmp t s) ∙ is_eq-slice_cmp t s

all_from : (ns : List ℕ) (ms : Entries) → from 0 ns ms ≡ of_namespace ns ms
all_from ns [] = refl
all_from ns (m ∷ ms) =
    ap (λ b. cond (b && bytes_eq ns m.0.namespace) (m ∷ from 0 ns ms) (from 0 ns ms)) (all_ranks (rank m.0.kind)) ∙ ap (λ b. cond b (m ∷ from 0 ns ms) (from 0 ns ms)) (turned ns m.0.namespace)
    ∙ ap (λ l. cond (bytes_eq m.0.namespace ns) (m ∷ l) l) (all_from ns ms)

-- whether kinds have ranks from this one on
abbrev are_from : ℕ → List Kind → Bool
are_from i [] = true
are_from i (k ∷ ks) = (rank k == i) && are_from (i + 1) ks

below : (i n : ℕ) → n < i → is_le (nat_cmp i n) ≡ false
below i n h = grind arith

none_from : (i : ℕ) (ns : List ℕ) (ms : Entries) → ((k : Kind) → rank k < i) → from i ns ms ≡ []
none_from i ns [] all = refl
none_from i ns (m ∷ ms) all =
    ap (λ b. cond (b && bytes_eq ns m.0.namespace) (m ∷ from i ns ms) (from i ns ms)) (below i (rank m.0.kind) (all m.0.kind)) ∙ none_from i ns ms all

same_rank : (n i : ℕ) → (n == i) ≡ true → n ≡ i
same_rank n i h = grind arith

from_kinds : (ks : List Kind) (i : ℕ) (ns : List ℕ) (ms : Entries) → are_from i ks ≡ true → ((k : Kind) → rank k < i + length ks) → IsStrictlySortedBy name_cmp (keys_of ms)
    → of_kinds ks ns ms ≡ from i ns ms
from_kinds [] i ns ms h all sorted = sym (none_from i ns ms (λ k. let under = all k in omega (arith, under)))
from_kinds (k ∷ ks) i ns ms h all sorted =
    let here : rank k ≡ i = same_rank (rank k) i (left_true (rank k == i) (are_from (i + 1) ks) h) in
    ap (λ l. of_kind k ns ms ++ l) (from_kinds ks (i + 1) ns ms (right_true (rank k == i) (are_from (i + 1) ks) h) (λ j. let under = all j in omega (arith, under)) sorted)
    ∙ ap (λ n. at n ns ms ++ from (i + 1) ns ms) here
    ∙ ap (λ l. at i ns ms ++ l) (sym (next i ns ms)) ∙ sym (split i ns ms sorted)

pub kinds_are_all : (ns : List ℕ) (ms : Entries) → IsStrictlySortedBy name_cmp (keys_of ms) → of_kinds kinds ns ms ≡ of_namespace ns ms
kinds_are_all ns ms sorted =
    from_kinds kinds 0 ns ms refl (λ k. slice_get_within kinds (rank k) k (kinds_at k)) sorted ∙ all_from ns ms

-- ---- a range of the map

pub range_seen : (k : Kind) (ns : List ℕ) (test : Key → Bool) → ((q : Key) → test q ≡ (is_eq (nat_cmp (rank k) (rank q.kind)) && bytes_eq ns (string_bytes q.namespace))) → (es : List (Key × SharedObject))
    → members_seen (filter (λ (e : Key × SharedObject). test e.0) es) ≡ of_kind k ns (members_seen es)
range_seen k ns test tells [] = refl
range_seen k ns test tells (e ∷ es) = by (test e.0) (is_eq (nat_cmp (rank k) (rank e.0.kind)) && bytes_eq ns (string_bytes e.0.namespace)) (tells e.0) (range_seen k ns test tells es)
  where
    by : (b c : Bool) → b ≡ c → members_seen (filter (λ (e : Key × SharedObject). test e.0) es) ≡ of_kind k ns (members_seen es)
        → members_seen (cond b (e ∷ filter (λ (e : Key × SharedObject). test e.0) es) (filter (λ (e : Key × SharedObject). test e.0) es)) ≡ cond c ((key_of e.0, e.1.value) ∷ of_kind k ns (members_seen es)) (of_kind k ns (members_seen es))
    by true true is rest = ap (λ ms. (key_of e.0, e.1.value) ∷ ms) rest
    by false false is rest = rest
    by true false is rest = cc
    by false true is rest = cc
