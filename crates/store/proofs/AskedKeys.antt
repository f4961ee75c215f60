-- What a view asks for after a place lies between the first key that it may ask for there and the first past them.
use denote.Ref.{Bor}
use Rattle.std.proofs.Common.{◌≡◌, ◌<◌, ◌≤◌, nat_lt, ℕ, zero, suc, ◌==◌, ◌&&◌, not, Bool, true, false, cond, List, [], ◌∷◌, ◌++◌, Option, Some, None, IfSome, option_map, unwrap_or, length, nat_cmp, is_lt, is_eq, is_le, is_gt, Ordering, Less, Equal, Greater, refl, sym, ap, ◌∙◌, subst, arith}
use Rattle.std.proofs.lemmas.Cmp.{nat_cmp_total, nat_list_cmp_total, tied_itself, upto, on_total, then_total}
use Rattle.std.proofs.lemmas.Map.Text.{is_eq-slice_cmp}
use Rattle.std.proofs.lemmas.Slice.Eq.{bytes_eq-Decides}
use Rattle.std.specs.List.{filter}
use Rattle.std.proofs.Math.Dec.{eqb-suc-zero}
use Rattle.std.proofs.lemmas.Bool.{ltb-true, ltb-false}
use Rattle.std.specs.Cmp.{IsTotalOrder, nat_cmp_is}
use Rattle.std.specs.Ordering.{ordering_then, ordering_reverse}
use Rattle.std.specs.Cmp.Lexicographic.{slice_cmp}
use Rattle.std.specs.BTreeMap.Range.{entries_between, range_contains}
use Rattle.std.specs.Str.{bytes_eq}
use Rattle.std.specs.declared.ops.Bound.TheVariants.{Included, Excluded, Unbounded}
use Rattle.serde_json.specs.Data.{Data}
use Rattle.spec_api.proofs.NextTexts.{nil_first, then_next, zero_next}
use Rattle.spec_api.specs.History.{View, Entries, in_view, in_namespace, viewed}
use Rattle.spec_api.specs.Kinds.{rank, kind_after}
use Rattle.spec_api.proofs.KindOrder.{rank_after, last_rank}
use Rattle.spec_api.specs.Metadata.{labels_of}
use Rattle.spec_api.specs.Lists.{is_selective}
use Rattle.spec_api.specs.Keys.{Key as Name, key_cmp as name_cmp}
use Rattle.spec_api.specs.Pages.{Place, is_after, after_place}
use Rattle.spec_api.specs.SelectorFields.{FieldRequirement, fields_meet}
use Rattle.spec_api.specs.Selectors.{Requirement, meets_all}
use Rattle.spec_api.specs.declared.kinds.Kind.{Kind}
use Rattle.object_keys.specs.Keys.{key_of}
use Rattle.object_keys.specs.declared.key.Key.{Key}
use Rattle.meta.specs.declared.stored.StoredObject.{StoredObject}
use Rattle.object_keys.proofs.KeyOrder.{key_cmp-name_cmp}
use Rattle.shared_map.specs.Entries.{end_before}
use Rattle.store.specs.AskedKeys.{first_name, first_asked, first_past, first_after, start_name, later}
use Rattle.store.specs.Seen.{members_seen}
use Rattle.store.proofs.SeenMaps.{key_cmp}

-- ---- texts

zero_after : (t : List ℕ) → slice_cmp nat_cmp (t ++ 0 ∷ []) t ≡ Greater
zero_after [] = refl
zero_after (x ∷ t) = ap (λ o. ordering_then o (slice_cmp nat_cmp (t ++ 0 ∷ []) t)) (tied_itself nat_cmp_total x) ∙ zero_after t

before_zero : (t : List ℕ) → slice_cmp nat_cmp t (t ++ 0 ∷ []) ≡ Less
before_zero [] = refl
before_zero (x ∷ t) = ap (λ o. ordering_then o (slice_cmp nat_cmp t (t ++ 0 ∷ []))) (tied_itself nat_cmp_total x) ∙ before_zero t

-- ---- names

asks : (a b c d : Bool) → (a && b && c && d) ≡ true → (a ≡ true) × (b ≡ true)
asks true true c d h = (refl, refl)
asks true false c d h = cc
asks false b c d h = cc

same_rank : (m n : ℕ) → (m == n) ≡ true → m ≡ n
same_rank m n h = grind arith

same_text : (s t : List ℕ) → bytes_eq s t ≡ true → s ≡ t
same_text s t is = (bytes_eq-Decides s t).0 is

-- a name that is no earlier by its namespace is no earlier
from_at : (m n : ℕ) (o : Ordering) (t : List ℕ) → m ≡ n → is_le o ≡ true → is_le (ordering_then (nat_cmp m n) (ordering_then o (slice_cmp nat_cmp [] t))) ≡ true
from_at m n o t same le = subst (λ n. is_le (ordering_then (nat_cmp m n) (ordering_then o (slice_cmp nat_cmp [] t))) ≡ true) same (ap (λ r. is_le (ordering_then r (ordering_then o (slice_cmp nat_cmp [] t)))) (tied_itself nat_cmp_total m) ∙ tail o le)
  where
    tail : (o : Ordering) → is_le o ≡ true → is_le (ordering_then o (slice_cmp nat_cmp [] t)) ≡ true
    tail Less le = refl
    tail Equal le = nil_first t
    tail Greater le = cc

namespace_from : (o : Option (List ℕ)) (t : List ℕ) → in_namespace o t ≡ true → is_le (slice_cmp nat_cmp (unwrap_or o []) t) ≡ true
namespace_from None t is = nil_first t
namespace_from (Some s) t is = subst (λ t. is_le (slice_cmp nat_cmp s t) ≡ true) (same_text s t is) (ap is_le (tied_itself nat_list_cmp_total s))

past_at : (m n : ℕ) (s t x : List ℕ) → m ≡ n → s ≡ t → is_le (ordering_then (nat_cmp m n) (ordering_then (slice_cmp nat_cmp (s ++ 0 ∷ []) t) (slice_cmp nat_cmp [] x))) ≡ false
past_at m n s t x same text =
    subst (λ n. is_le (ordering_then (nat_cmp m n) (ordering_then (slice_cmp nat_cmp (s ++ 0 ∷ []) t) (slice_cmp nat_cmp [] x))) ≡ false) same
    (ap (λ r. is_le (ordering_then r (ordering_then (slice_cmp nat_cmp (s ++ 0 ∷ []) t) (slice_cmp nat_cmp [] x)))) (tied_itself nat_cmp_total m)
    ∙ subst (λ t. is_le (ordering_then (slice_cmp nat_cmp (s ++ 0 ∷ []) t) (slice_cmp nat_cmp [] x)) ≡ false) text (ap (λ r. is_le (ordering_then r (slice_cmp nat_cmp [] x))) (zero_after s)))

-- of two names, the one whose kind stands first comes first
rank_over : (m n : ℕ) (o : Ordering) → n < m → is_le (ordering_then (nat_cmp m n) o) ≡ false
rank_over m n o over = ap (λ r. is_le (ordering_then r o)) (sym (nat_cmp_is m n Greater over))

rank_under : (m n : ℕ) (o : Ordering) → m < n → ordering_then (nat_cmp m n) o ≡ Less
rank_under m n o under = ap (λ r. ordering_then r o) (sym (nat_cmp_is m n Less under))

next_after : (j : Kind) (k : Name) → rank j ≡ rank k.kind → IfSome (option_map (λ next. first_name next []) (kind_after j)) (λ p. is_le (name_cmp p k) ≡ false)
next_after j k same = by (kind_after j) refl
  where
    by : (o : Option Kind) → kind_after j ≡ o → IfSome (option_map (λ next. first_name next []) o) (λ p. is_le (name_cmp p k) ≡ false)
    by None is = tt
    by (Some n) is =
        rank_over (rank n) (rank k.kind) (ordering_then (slice_cmp nat_cmp [] k.namespace) (slice_cmp nat_cmp [] k.name)) (omega (arith, rank_after j n is, same))

past_after : (j : Kind) (o : Option (List ℕ)) (k : Name) → rank j ≡ rank k.kind → in_namespace o k.namespace ≡ true → IfSome (first_past j o) (λ p. is_le (name_cmp p k) ≡ false)
past_after j None k same is = next_after j k same
past_after j (Some s) k same is = past_at (rank j) (rank k.kind) s k.namespace k.name same (same_text s k.namespace is)

next_forward : (j : Kind) → IfSome (option_map (λ next. first_name next []) (kind_after j)) (λ p. is_gt (name_cmp (first_name j []) p) ≡ false)
next_forward j = by (kind_after j) refl
  where
    by : (o : Option Kind) → kind_after j ≡ o → IfSome (option_map (λ next. first_name next []) o) (λ p. is_gt (name_cmp (first_name j []) p) ≡ false)
    by None is = tt
    by (Some n) is =
        ap is_gt (rank_under (rank j) (rank n) (ordering_then (slice_cmp nat_cmp [] []) (slice_cmp nat_cmp [] [])) (omega (arith, rank_after j n is)))

goes_forward : (j : Kind) (o : Option (List ℕ)) → IfSome (first_past j o) (λ p. is_gt (name_cmp (first_name j (unwrap_or o [])) p) ≡ false)
goes_forward j None = next_forward j
goes_forward j (Some s) =
    ap (λ r. is_gt (ordering_then r (ordering_then (slice_cmp nat_cmp s (s ++ 0 ∷ [])) (slice_cmp nat_cmp [] [])))) (tied_itself nat_cmp_total (rank j)) ∙ ap (λ r. is_gt (ordering_then r (slice_cmp nat_cmp [] []))) (before_zero s)

parts : (v : View) (k : Name) (d : Data) → in_view v k d ≡ true → (rank v.kind ≡ rank k.kind) × (in_namespace v.namespace k.namespace ≡ true)
parts v k d is =
    let p = asks (rank v.kind == rank k.kind) (in_namespace v.namespace k.namespace) (meets_all v.labels (labels_of d)) (fields_meet v.fields k.name k.namespace) is in (same_rank (rank v.kind) (rank k.kind) p.0, p.1)

-- ---- the order of names

name_total : IsTotalOrder name_cmp
name_total = then_total (on_total (λ (n : Name). rank n.kind) nat_cmp_total) (then_total (on_total (λ (n : Name). n.namespace) nat_list_cmp_total) (on_total (λ (n : Name). n.name) nat_list_cmp_total))

gt-le : (o : Ordering) → is_le o ≡ true → is_gt o ≡ false
gt-le Less le = refl
gt-le Equal le = refl
gt-le Greater le = sym le

le-gt : (o : Ordering) → is_gt o ≡ false → is_le o ≡ true
le-gt Less le = refl
le-gt Equal le = refl
le-gt Greater le = sym le

back-lt : (o : Ordering) → is_lt o ≡ false → is_le (ordering_reverse o) ≡ true
back-lt Less never = sym never
back-lt Equal never = refl
back-lt Greater never = refl

lt-le : (o : Ordering) → is_lt o ≡ true → is_le o ≡ true
lt-le Less less = refl
lt-le Equal less = refl
lt-le Greater less = less

-- what is not before is after or level
not-before : (a b : Name) → is_lt (name_cmp a b) ≡ false → is_le (name_cmp b a) ≡ true
not-before a b never = ap is_le (name_total.antisymm b a) ∙ back-lt (name_cmp a b) never

le_through : (a b c : Name) → is_le (name_cmp a b) ≡ true → is_le (name_cmp b c) ≡ true → is_le (name_cmp a c) ≡ true
le_through a b c p q = le-gt (name_cmp a c) (upto name_total a b c (gt-le (name_cmp a b) p) (gt-le (name_cmp b c) q))

first-later : (a b : Name) → is_le (name_cmp a (later a b)) ≡ true
first-later a b = by (is_lt (name_cmp a b)) refl
  where
    by : (c : Bool) → is_lt (name_cmp a b) ≡ c → is_le (name_cmp a (cond c b a)) ≡ true
    by true is = lt-le (name_cmp a b) is
    by false is = ap is_le (tied_itself name_total a)

-- ---- after a place

-- the names of a kind that are no earlier than the first after a place are those after it
next_place : (j : Kind) (p : Place) (k : Name) → rank j ≡ rank k.kind → is_le (name_cmp (first_after j p) k) ≡ is_after (Some p) k
next_place j p k same =
    subst (λ n. is_le (ordering_then (nat_cmp (rank j) n) (ordering_then (slice_cmp nat_cmp p.namespace k.namespace) (slice_cmp nat_cmp (p.name ++ 0 ∷ []) k.name))) ≡ is_after (Some p) k) same
    (ap (λ o. is_le (ordering_then o (ordering_then (slice_cmp nat_cmp p.namespace k.namespace) (slice_cmp nat_cmp (p.name ++ 0 ∷ []) k.name)))) (tied_itself nat_cmp_total (rank j))
    ∙ then_next (slice_cmp nat_cmp p.namespace k.namespace) (slice_cmp nat_cmp (p.name ++ 0 ∷ []) k.name) (slice_cmp nat_cmp p.name k.name) (zero_next p.name k.name))

name_from : (v : View) (k : Name) (d : Data) → in_view v k d ≡ true → is_le (name_cmp (first_asked v) k) ≡ true
name_from v k d is =
    let p = parts v k d is in
    from_at (rank v.kind) (rank k.kind) (slice_cmp nat_cmp (unwrap_or v.namespace []) k.namespace) k.name p.0 (namespace_from v.namespace k.namespace p.1)

later_from : (a b k : Name) → is_le (name_cmp a k) ≡ true → is_le (name_cmp (later a b) k) ≡ is_le (name_cmp b k)
later_from a b k from = by (is_lt (name_cmp a b)) refl
  where
    by : (c : Bool) → is_lt (name_cmp a b) ≡ c → is_le (name_cmp (cond c b a) k) ≡ is_le (name_cmp b k)
    by true is = refl
    by false is = from ∙ sym (le_through b a k (not-before a b is) from)

-- of what a view asks for, just what is after the place is no earlier than the start
start-after : (v : View) (p : Option Place) (k : Name) (d : Data) → in_view v k d ≡ true → is_le (name_cmp (start_name v p) k) ≡ is_after p k
start-after v None k d is = name_from v k d is
start-after v (Some p) k d is =
    later_from (first_asked v) (first_after v.kind p) k (name_from v k d is) ∙ next_place v.kind p k (parts v k d is).0

start-first : (v : View) (p : Option Place) → is_le (name_cmp (first_asked v) (start_name v p)) ≡ true
start-first v None = ap is_le (tied_itself name_total (first_asked v))
start-first v (Some p) = first-later (first_asked v) (first_after v.kind p)

-- ---- before the first name past a view

name_past : (v : View) (past : Name) → Some past ≡ first_past v.kind v.namespace → (k : Name) (d : Data) → in_view v k d ≡ true → is_le (name_cmp past k) ≡ false
name_past v past named k d is =
    let p = parts v k d is in
    subst (λ o. IfSome o (λ p. is_le (name_cmp p k) ≡ false)) (sym named) (past_after v.kind v.namespace k p.0 p.1)

-- ---- all of a kind in a namespace

le_same : (s t : List ℕ) → is_le (slice_cmp nat_cmp s t) ≡ true → is_lt (slice_cmp nat_cmp s t) ≡ false → bytes_eq s t ≡ true
le_same s t le least = sym (is_eq-slice_cmp s t) ∙ by (slice_cmp nat_cmp s t) le least
  where
    by : (o : Ordering) → is_le o ≡ true → is_lt o ≡ false → is_eq o ≡ true
    by Less le least = sym least
    by Equal le least = refl
    by Greater le least = le

-- no name of another kind, nor of another namespace, is between the first of a namespace and the first of the next
of_both : (m n : ℕ) (s t x : List ℕ) → is_le (ordering_then (nat_cmp m n) (ordering_then (slice_cmp nat_cmp s t) (slice_cmp nat_cmp [] x))) ≡ true
    → is_le (ordering_then (nat_cmp m n) (ordering_then (slice_cmp nat_cmp (s ++ 0 ∷ []) t) (slice_cmp nat_cmp [] x))) ≡ false → ((m == n) ≡ true) × (bytes_eq s t ≡ true)
of_both m n s t x from below = by (nat_cmp m n) refl from below
  where
    low : (o : Ordering) → is_le (ordering_then o (slice_cmp nat_cmp [] x)) ≡ true → is_le o ≡ true
    low Less le = refl
    low Equal le = refl
    low Greater le = le

    high : (o : Ordering) → is_le (ordering_then o (slice_cmp nat_cmp [] x)) ≡ false → is_le o ≡ false
    high Less never = never
    high Equal never = sym (nil_first x) ∙ never
    high Greater never = refl

    by : (o : Ordering) → nat_cmp m n ≡ o → is_le (ordering_then o (ordering_then (slice_cmp nat_cmp s t) (slice_cmp nat_cmp [] x))) ≡ true
        → is_le (ordering_then o (ordering_then (slice_cmp nat_cmp (s ++ 0 ∷ []) t) (slice_cmp nat_cmp [] x))) ≡ false → ((m == n) ≡ true) × (bytes_eq s t ≡ true)
    by Less is from below = let not_so : true ≡ false = below in cc
    by Equal is from below =
        (grind arith, le_same s t (low (slice_cmp nat_cmp s t) from) (sym (zero_next s t) ∙ high (slice_cmp nat_cmp (s ++ 0 ∷ []) t) below))
    by Greater is from below = let not_so : false ≡ true = from in cc

rank_from : (m n : ℕ) (o : Ordering) → is_le (ordering_then (nat_cmp m n) o) ≡ true → m ≤ n
rank_from m n o from = by (nat_lt n m) refl
  where
    by : (b : Bool) → nat_lt n m ≡ b → m ≤ n
    by true over = let never : false ≡ true = sym (rank_over m n o (ltb-true n m over)) ∙ from in cc
    by false not_over = ltb-false n m not_over

rank_before : (m n : ℕ) (t x : List ℕ) → is_le (ordering_then (nat_cmp m n) (ordering_then (slice_cmp nat_cmp [] t) (slice_cmp nat_cmp [] x))) ≡ false → n < m
rank_before m n t x below = by (nat_lt n m) (m == n) refl refl
  where
    by : (b c : Bool) → nat_lt n m ≡ b → (m == n) ≡ c → n < m
    by true c over same = ltb-true n m over
    by false true over same = let never : true ≡ false = sym (from_at m n (slice_cmp nat_cmp [] t) x (same_rank m n same) (nil_first t)) ∙ below in cc
    by false false over other =
        let under : m < n = grind arith in
        let never : true ≡ false = sym (ap is_le (rank_under m n (ordering_then (slice_cmp nat_cmp [] t) (slice_cmp nat_cmp [] x)) under)) ∙ below in cc

-- a kind between a kind and the next is that kind
same_kind : (j : Kind) (k : Name) → is_le (name_cmp (first_name j []) k) ≡ true → IfSome (option_map (λ next. first_name next []) (kind_after j)) (λ p. is_le (name_cmp p k) ≡ false) → (rank j == rank k.kind) ≡ true
same_kind j k from below =
    one (rank j) (rank k.kind) (rank_from (rank j) (rank k.kind) (ordering_then (slice_cmp nat_cmp [] k.namespace) (slice_cmp nat_cmp [] k.name)) from) (by (kind_after j) refl below)
  where
    one : (m n : ℕ) → m ≤ n → n ≤ m → (m == n) ≡ true
    one m n up down = grind arith

    by : (o : Option Kind) → kind_after j ≡ o → IfSome (option_map (λ next. first_name next []) o) (λ p. is_le (name_cmp p k) ≡ false) → rank k.kind ≤ rank j
    by None none below = last_rank j k.kind none
    by (Some n) is below = let before = rank_before (rank n) (rank k.kind) k.namespace k.name below in omega (arith, before, rank_after j n is)

-- between the first name that a view may ask for and the first past them, each is of its kind and in its namespace
all_between : (j : Kind) (o : Option (List ℕ)) (k : Name) → is_le (name_cmp (first_name j (unwrap_or o [])) k) ≡ true → IfSome (first_past j o) (λ p. is_le (name_cmp p k) ≡ false)
    → ((rank j == rank k.kind) ≡ true) × (in_namespace o k.namespace ≡ true)
all_between j None k from below = (same_kind j k from below, refl)
all_between j (Some s) k from below = of_both (rank j) (rank k.kind) s k.namespace k.name from below

-- a view that does not select asks for all of its kind and namespace
whole_view : (j : Kind) (o : Option (List ℕ)) (ls : List Requirement) (fs : List FieldRequirement) (k : Name) (d : Data) → is_selective (record { kind = j; namespace = o; labels = ls; fields = fs }) ≡ false
    → (rank j == rank k.kind) ≡ true → in_namespace o k.namespace ≡ true → in_view (record { kind = j; namespace = o; labels = ls; fields = fs }) k d ≡ true
whole_view j o [] [] k d plain same is = all_four (rank j == rank k.kind) (in_namespace o k.namespace) same is
  where
    all_four : (a b : Bool) → a ≡ true → b ≡ true → (a && b && true && true) ≡ true
    all_four true true p q = refl
    all_four true false p q = q
    all_four false b p q = p
whole_view j o [] (f ∷ fs) k d plain same is = let not_so : true ≡ false = sym (selects (length {A = Requirement} [] == 0) (length (f ∷ fs) == 0) (eqb-suc-zero (length fs))) ∙ plain in cc
  where
    selects : (a b : Bool) → b ≡ false → not (a && b) ≡ true
    selects true b e = ap not e
    selects false b e = refl
whole_view j o (l ∷ ls) fs k d plain same is = let not_so : true ≡ false = sym (lists (length (l ∷ ls) == 0) (length fs == 0) (eqb-suc-zero (length ls))) ∙ plain in cc
  where
    lists : (a b : Bool) → a ≡ false → not (a && b) ≡ true
    lists true b e = cc
    lists false b e = refl

all-asked : (v : View) → is_selective v ≡ false → (k : Name) (d : Data) → is_le (name_cmp (first_asked v) k) ≡ true → IfSome (first_past v.kind v.namespace) (λ p. is_le (name_cmp p k) ≡ false) → in_view v k d ≡ true
all-asked v plain k d from below =
    let p = all_between v.kind v.namespace k from below in whole_view v.kind v.namespace v.labels v.fields k d plain p.0 p.1

-- ---- entries

-- an entry of a filtered map, where the test is whether the entry is after the place if the view asks for it
kept_at : (v : View) (p : Option Place) (e : Key × StoredObject) (es : List (Key × StoredObject)) (b : Bool) → (in_view v (key_of e.0) e.1.value ≡ true → b ≡ is_after p (key_of e.0))
    → viewed v (members_seen (cond b (e ∷ es) es)) ≡ cond (in_view v (key_of e.0) e.1.value) (cond (is_after p (key_of e.0)) ((key_of e.0, e.1.value) ∷ viewed v (members_seen es)) (viewed v (members_seen es))) (viewed v (members_seen es))
kept_at v p e es b same = by b (in_view v (key_of e.0) e.1.value) refl (is_after p (key_of e.0)) same
  where
    by : (b c : Bool) → in_view v (key_of e.0) e.1.value ≡ c → (a : Bool) → (c ≡ true → b ≡ a)
        → viewed v (members_seen (cond b (e ∷ es) es)) ≡ cond c (cond a ((key_of e.0, e.1.value) ∷ viewed v (members_seen es)) (viewed v (members_seen es))) (viewed v (members_seen es))
    by true true is true same = ap (λ c. cond c ((key_of e.0, e.1.value) ∷ viewed v (members_seen es)) (viewed v (members_seen es))) is
    by true true is false same = let not_so : true ≡ false = same refl in cc
    by true false is a same = ap (λ c. cond c ((key_of e.0, e.1.value) ∷ viewed v (members_seen es)) (viewed v (members_seen es))) is
    by false true is true same = let not_so : false ≡ true = same refl in cc
    by false true is false same = refl
    by false false is a same = refl

after_cond : (p : Option Place) (c : Bool) (m : Name × Data) (ms : Entries) → after_place p (cond c (m ∷ ms) ms) ≡ cond c (cond (is_after p m.0) (m ∷ after_place p ms) (after_place p ms)) (after_place p ms)
after_cond p true m ms = refl
after_cond p false m ms = refl

-- what passes a test has what the view asks for after a place, if the test tells that of each key that it asks for
kept : (v : View) (p : Option Place) (test : Key → Bool) → ((k : Key) (d : Data) → in_view v (key_of k) d ≡ true → test k ≡ is_after p (key_of k)) → (es : List (Key × StoredObject))
    → viewed v (members_seen (filter (λ e. test e.0) es)) ≡ after_place p (viewed v (members_seen es))
kept v p test same [] = refl
kept v p test same (e ∷ es) =
    kept_at v p e (filter (λ (e : Key × StoredObject). test e.0) es) (test e.0) (same e.0 e.1.value)
    ∙ ap (λ ms. cond (in_view v (key_of e.0) e.1.value) (cond (is_after p (key_of e.0)) ((key_of e.0, e.1.value) ∷ ms) ms) ms) (kept v p test same es)
    ∙ sym (after_cond p (in_view v (key_of e.0) e.1.value) (key_of e.0, e.1.value) (viewed v (members_seen es)))

-- where the view asks for each that passes a test, it asks for all of what passes it
all_kept : (v : View) (test : Key → Bool) → ((k : Key) (d : Data) → test k ≡ true → in_view v (key_of k) d ≡ true) → (es : List (Key × StoredObject))
    → viewed v (members_seen (filter (λ e. test e.0) es)) ≡ members_seen (filter (λ e. test e.0) es)
all_kept v test all [] = refl
all_kept v test all (e ∷ es) = by (filter (λ (e : Key × StoredObject). test e.0) es) (all_kept v test all es) (test e.0) refl
  where
    by : (fs : List (Key × StoredObject)) → viewed v (members_seen fs) ≡ members_seen fs → (b : Bool) → test e.0 ≡ b → viewed v (members_seen (cond b (e ∷ fs) fs)) ≡ members_seen (cond b (e ∷ fs) fs)
    by fs rest true is =
        ap (λ c. cond c ((key_of e.0, e.1.value) ∷ viewed v (members_seen fs)) (viewed v (members_seen fs))) (all e.0 e.1.value is) ∙ ap (λ ms. (key_of e.0, e.1.value) ∷ ms) rest
    by fs rest false is = rest

-- ---- keys

key-name : (a : Key) (n : Name) → key_of a ≡ n → (k : Key) → is_le (key_cmp a k) ≡ is_le (name_cmp n (key_of k))
key-name a n named k = ap is_le (key_cmp-name_cmp a k ∙ ap (λ n. name_cmp n (key_of k)) named)

without_false : (a b c : Bool) → a ≡ c → b ≡ false → (a && not b) ≡ c
without_false true true c p q = sym q ∙ p
without_false true false c p q = p
without_false false b c p q = p

both : (a b : Bool) → (a && not b) ≡ true → (a ≡ true) × (b ≡ false)
both true true h = (refl, sym h)
both true false h = (refl, refl)
both false b h = let not_so : false ≡ true = h in cc

-- the range from the start of a view to the first key past it
between-asked : (v : View) (p : Option Place) (start past : Key) → key_of start ≡ start_name v p → Some (key_of past) ≡ first_past v.kind v.namespace → (es : List (Key × StoredObject))
    → viewed v (members_seen (entries_between key_cmp (Included start) (Excluded past) es)) ≡ after_place p (viewed v (members_seen es))
between-asked v p start past named last es = kept v p (range_contains key_cmp (Included start) (Excluded past)) one es
  where
    one : (k : Key) (d : Data) → in_view v (key_of k) d ≡ true → range_contains key_cmp (Included start) (Excluded past) k ≡ is_after p (key_of k)
    one k d is =
        let below = name_past v (key_of past) last (key_of k) d is in
        without_false (is_le (key_cmp start k)) (is_le (key_cmp past k)) (is_after p (key_of k))
        (key-name start (start_name v p) named k ∙ start-after v p (key_of k) d is)
        (key-name past (key_of past) refl k ∙ below)

from-asked : (v : View) (p : Option Place) (start : Key) → key_of start ≡ start_name v p → (es : List (Key × StoredObject))
    → viewed v (members_seen (entries_between key_cmp (Included start) Unbounded es)) ≡ after_place p (viewed v (members_seen es))
from-asked v p start named es =
    kept v p (range_contains key_cmp (Included start) Unbounded) (λ k d is. without_false (is_le (key_cmp start k)) false (is_after p (key_of k)) (key-name start (start_name v p) named k ∙ start-after v p (key_of k) d is) refl) es

between-all : (v : View) (p : Option Place) (start past : Key) → key_of start ≡ start_name v p → Some (key_of past) ≡ first_past v.kind v.namespace → (es : List (Key × StoredObject))
    → is_selective v ≡ false → viewed v (members_seen (entries_between key_cmp (Included start) (Excluded past) es)) ≡ members_seen (entries_between key_cmp (Included start) (Excluded past) es)
between-all v p start past named last es plain = all_kept v (range_contains key_cmp (Included start) (Excluded past)) one es
  where
    one : (k : Key) (d : Data) → range_contains key_cmp (Included start) (Excluded past) k ≡ true → in_view v (key_of k) d ≡ true
    one k d is =
        let ends = both (is_le (key_cmp start k)) (is_le (key_cmp past k)) is in
        let from = le_through (first_asked v) (start_name v p) (key_of k) (start-first v p) (sym (key-name start (start_name v p) named k) ∙ ends.0) in
        let below : is_le (name_cmp (key_of past) (key_of k)) ≡ false = sym (key-name past (key_of past) refl k) ∙ ends.1 in
        all-asked v plain (key_of k) d from (subst (λ o. IfSome o (λ p. is_le (name_cmp p (key_of k)) ≡ false)) last below)

from-all : (v : View) (p : Option Place) (start : Key) → key_of start ≡ start_name v p → None ≡ first_past v.kind v.namespace → (es : List (Key × StoredObject))
    → is_selective v ≡ false → viewed v (members_seen (entries_between key_cmp (Included start) Unbounded es)) ≡ members_seen (entries_between key_cmp (Included start) Unbounded es)
from-all v p start named last es plain = all_kept v (range_contains key_cmp (Included start) Unbounded) one es
  where
    one : (k : Key) (d : Data) → range_contains key_cmp (Included start) Unbounded k ≡ true → in_view v (key_of k) d ≡ true
    one k d is =
        let ends = both (is_le (key_cmp start k)) false is in
        let from = le_through (first_asked v) (start_name v p) (key_of k) (start-first v p) (sym (key-name start (start_name v p) named k) ∙ ends.0) in
        all-asked v plain (key_of k) d from (subst (λ o. IfSome o (λ p. is_le (name_cmp p (key_of k)) ≡ false)) last tt)

-- the same, where there may be no key past it
pub asked-found : (v : View) (p : Option Place) (start : Key) (past : Option (Bor Key)) → key_of start ≡ start_name v p → option_map (λ (k : Bor Key). key_of k.now) past ≡ first_past v.kind v.namespace → (es : List (Key × StoredObject))
    → viewed v (members_seen (entries_between key_cmp (Included start) (end_before past) es)) ≡ after_place p (viewed v (members_seen es))
asked-found v p start None named last es = from-asked v p start named es
asked-found v p start (Some past) named last es = between-asked v p start past.now named last es

pub asked-all : (v : View) (p : Option Place) (start : Key) (past : Option (Bor Key)) → key_of start ≡ start_name v p → option_map (λ (k : Bor Key). key_of k.now) past ≡ first_past v.kind v.namespace → (es : List (Key × StoredObject))
    → is_selective v ≡ false → viewed v (members_seen (entries_between key_cmp (Included start) (end_before past) es)) ≡ members_seen (entries_between key_cmp (Included start) (end_before past) es)
asked-all v p start None named last es = from-all v p start named last es
asked-all v p start (Some past) named last es = between-all v p start past.now named last es

-- without a place, all are after it
pub after-none : (ms : Entries) → after_place None ms ≡ ms
after-none [] = refl
after-none (m ∷ ms) = ap (λ ms. m ∷ ms) (after-none ms)
