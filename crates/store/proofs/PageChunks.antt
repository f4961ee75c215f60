-- The first objects of a range as a page, and what a range has left where the view asks for each.
use Rattle.std.proofs.Common.{suc, ◌≡◌, ◌≤◌, ◌<◌, ◌+◌, ◌-◌, ◌==◌, ℕ, List, [], ◌∷◌, ◌++◌, length, map, take, filter, append-nil, Bool, true, false, cond, Option, refl, sym, ap, ◌∙◌, subst, arith, nat_le, nat_eq}
use Rattle.std.proofs.Math.Seq.{take-append_seam}
use Rattle.std.proofs.lemmas.Bool.Decides.{nat_tests}
use Rattle.std.proofs.lemmas.List.{length-append, length-map, nil_from_length}
use Rattle.serde_json.specs.Data.{Data}
use Rattle.spec_api.specs.Keys.{Key as Name}
use Rattle.spec_api.specs.History.{View, Entries, viewed, in_view}
use Rattle.spec_api.specs.Pages.{Place, is_after, after_place, page_of, remaining}
use Rattle.object_keys.specs.Keys.{key_of}
use Rattle.meta.specs.Members.{member_of}
use Rattle.object_keys.specs.declared.key.Key.{Key}
use Rattle.meta.specs.declared.stored.StoredObject.{StoredObject}
use Rattle.store.specs.Chunks.{IsFirst, Tells, IsPage}
use Rattle.store.specs.Seen.{members_seen}
use Rattle.store.specs.declared.chunks.Chunk.{Chunk}

-- ---- a page

added : (n : ℕ) (all taken left : Entries) → IsFirst n all taken left → length taken + length left ≡ length all
added n all taken left f = sym (length-append taken left) ∙ ap length f.split

pub whole : (all taken left : Entries) → taken ++ left ≡ all → left ≡ [] → taken ≡ all
whole all taken left split none = sym (append-nil taken) ∙ ap (λ z. taken ++ z) (sym none) ∙ split

as_many : (n : ℕ) (all taken left : Entries) → taken ++ left ≡ all → length taken ≡ n → taken ≡ take n all
as_many n all taken left split is = sym (take-append_seam taken left) ∙ ap (λ z. take (length taken) z) split ∙ ap (λ k. take k all) is

-- whether fewer were taken than the limit, or as many
none_or_full : (n : ℕ) (all taken left : Entries) (b : Bool) → nat_le n (length taken) ≡ b → 0 < n → IsFirst n all taken left → cond b (length taken ≡ n) (left ≡ [])
none_or_full n all taken left true is some f = let least : n ≤ length taken = grind (arith, nat_tests) in omega (arith, least, f.few some)
none_or_full n all taken left false is some f = let less : length taken < n = grind (arith, nat_tests) in f.short less

items_at : (n : ℕ) (all taken left : Entries) (b c : Bool) → nat_le (length all) n ≡ c → 0 < n → IsFirst n all taken left → cond b (length taken ≡ n) (left ≡ []) → taken ≡ cond c all (take n all)
items_at n all taken left true true le some f is =
    let low : length all ≤ n = grind (arith, nat_tests) in
    let no : length left ≡ 0 = omega (arith, low, is, added n all taken left f) in
    whole all taken left f.split (nil_from_length left no)
items_at n all taken left true false le some f is = as_many n all taken left f.split is
items_at n all taken left false true le some f is = whole all taken left f.split is
items_at n all taken left false false le some f is =
    let high : n < length all = grind (arith, nat_tests) in
    let no : length left ≡ 0 = ap length is in
    absurd (omega (arith, high, no, f.few some, added n all taken left f))

left_at : (n : ℕ) (all taken left : Entries) (b : Bool) → 0 < n → IsFirst n all taken left → cond b (length taken ≡ n) (left ≡ []) → length left ≡ length all - n
left_at n all taken left true some f is = omega (arith, is, added n all taken left f)
left_at n all taken left false some f is =
    let no : length left ≡ 0 = ap length is in
    omega (arith, no, f.few some, added n all taken left f)

-- what was taken is a page, and what is left remains after it
Parts : Entries → ℕ → Option Place → Entries → Entries → Type 0
Parts ms n p taken left = (taken ≡ (page_of ms n p).items) × (length left ≡ remaining ms n p)

limited : (ms : Entries) (n : ℕ) (p : Option Place) (taken left : Entries) (c : Bool) → nat_eq n 0 ≡ false → nat_le (length (after_place p ms)) n ≡ c → taken ≡ cond c (after_place p ms) (take n (after_place p ms))
    → length left ≡ length (after_place p ms) - n → Parts ms n p taken left
unfolding Parts
limited ms n p taken left true some le is rest = (rw (some, le) is, rw some rest)
limited ms n p taken left false some le is rest = (rw (some, le) is, rw some rest)

parts_at : (ms : Entries) (n : ℕ) (p : Option Place) (taken left : Entries) (b : Bool) → nat_eq n 0 ≡ b → IsFirst n (after_place p ms) taken left → Parts ms n p taken left
unfolding Parts
parts_at ms n p taken left true is f =
    let no : n ≡ 0 = grind (arith, nat_tests) in
    let none : left ≡ [] = f.unlimited no in
    (rw is (whole (after_place p ms) taken left f.split none), rw is (ap length none))
parts_at ms n p taken left false is f =
    let some : 0 < n = grind (arith, nat_tests) in
    let all : Entries = after_place p ms in
    let full = none_or_full n all taken left (nat_le n (length taken)) refl some f in
    limited ms n p taken left (nat_le (length all) n) is refl (items_at n all taken left (nat_le n (length taken)) (nat_le (length all) n) refl some f full)
    (left_at n all taken left (nat_le n (length taken)) some f full)

pub is_page : (v : View) (ms all : Entries) (n : ℕ) (p : Option Place) (c : Chunk) (left : Entries) → all ≡ after_place p ms → IsFirst n all (map member_of c.members.items) left → Tells v (length left) c.remaining → IsPage v ms n p c
unfolding Parts
is_page v ms all n p c left is f tells =
    let first : IsFirst n (after_place p ms) (map member_of c.members.items) left = subst (λ z. IsFirst n z (map member_of c.members.items) left) is f in
    let parts : Parts ms n p (map member_of c.members.items) left = parts_at ms n p (map member_of c.members.items) left (nat_eq n 0) refl first in
    record {
      items = parts.0;
      rest = subst (λ k. Tells v k c.remaining) parts.1 tells;
    }

-- ---- a range

few_filtered : (f : Name × Data → Bool) (ms : Entries) → length (filter f ms) ≤ length ms
few_filtered f [] = omega arith
few_filtered f (m ∷ ms) = counted (f m) (filter f ms) (few_filtered f ms)
  where
    counted : (b : Bool) (fs : Entries) → length fs ≤ length ms → length (cond b (m ∷ fs) fs) ≤ suc (length ms)
    counted true fs le = omega (arith, le)
    counted false fs le = omega (arith, le)

few_viewed : (v : View) (ms : Entries) → length (viewed v ms) ≤ length ms
few_viewed v ms = few_filtered (λ m. in_view v m.0 m.1) ms

abbrev tail_of : Entries → Entries
tail_of [] = []
tail_of (m ∷ ms) = ms

-- where a view asks for each, it asks for each of those after the first
pub all_left : (v : View) (m : Name × Data) (ms : Entries) → viewed v (m ∷ ms) ≡ m ∷ ms → viewed v ms ≡ ms
all_left v m ms all = left_of (in_view v m.0 m.1) m ms (viewed v ms) (few_viewed v ms) all
  where
    left_of : (b : Bool) (m : Name × Data) (ms vs : Entries) → length vs ≤ length ms → cond b (m ∷ vs) vs ≡ m ∷ ms → vs ≡ ms
    left_of true m ms vs le all = ap (λ zs. tail_of zs) all
    left_of false m ms vs le all = let longer : length vs ≡ suc (length ms) = ap length all in absurd (omega (arith, le, longer))

-- where a view asks for each, it asks for the first
all_shown : (v : View) (m : Name × Data) (ms : Entries) → viewed v (m ∷ ms) ≡ m ∷ ms → in_view v m.0 m.1 ≡ true
all_shown v m ms all = shown_of (in_view v m.0 m.1) m ms (viewed v ms) (few_viewed v ms) all
  where
    shown_of : (b : Bool) (m : Name × Data) (ms vs : Entries) → length vs ≤ length ms → cond b (m ∷ vs) vs ≡ m ∷ ms → b ≡ true
    shown_of true m ms vs le all = refl
    shown_of false m ms vs le all = let longer : length vs ≡ suc (length ms) = ap length all in absurd (omega (arith, le, longer))

-- ---- one object of a range

pub first_shown : (v : View) (es fs : List (Key × StoredObject)) (e : Key × StoredObject) → es ≡ e ∷ fs → viewed v (members_seen es) ≡ members_seen es → in_view v (key_of e.0) e.1.value ≡ true
first_shown v es fs e is all = all_shown v (key_of e.0, e.1.value) (members_seen fs) (subst (λ z. viewed v (members_seen z) ≡ members_seen z) is all)

pub passed : (v : View) (es fs : List (Key × StoredObject)) (e : Key × StoredObject) → es ≡ e ∷ fs → false ≡ in_view v (key_of e.0) e.1.value → viewed v (members_seen fs) ≡ viewed v (members_seen es)
passed v es fs e is out =
    ap (λ b. cond b ((key_of e.0, e.1.value) ∷ viewed v (members_seen fs)) (viewed v (members_seen fs))) out ∙ ap (λ z. viewed v (members_seen z)) (sym is)

pub after_first : (v : View) (es fs : List (Key × StoredObject)) (e : Key × StoredObject) → es ≡ e ∷ fs → viewed v (members_seen es) ≡ members_seen es → viewed v (members_seen fs) ≡ members_seen fs
after_first v es fs e is all = all_left v (key_of e.0, e.1.value) (members_seen fs) (subst (λ z. viewed v (members_seen z) ≡ members_seen z) is all)

-- ---- a count

length-seen : (es : List (Key × StoredObject)) → length (members_seen es) ≡ length es
length-seen es = length-map es (λ e. (key_of e.0, e.1.value))

pub tells_all : (v : View) (es : List (Key × StoredObject)) (n : ℕ) → viewed v (members_seen es) ≡ members_seen es → n ≡ length es → Tells v (length (viewed v (members_seen es))) n
tells_all v es n all is =
    let count : n ≡ length (viewed v (members_seen es)) = is ∙ sym (length-seen es) ∙ ap length (sym all) in
    record {
      whether = ap (λ k. k == 0) count;
      number = λ whole. count;
    }

pub few_left : (n most : ℕ) (v : View) (es fs : List (Key × StoredObject)) (p : Option Place) (taken left : Entries) → viewed v (members_seen fs) ≡ after_place p (viewed v (members_seen es)) → IsFirst n (viewed v (members_seen fs)) taken left → length es ≤ most
    → length left ≤ most
few_left n most v es fs p taken left is f le =
    let some : length (viewed v (members_seen fs)) ≡ length (after_place p (viewed v (members_seen es))) = ap length is in
    let after : length (after_place p (viewed v (members_seen es))) ≤ length (viewed v (members_seen es)) = few_filtered (λ m. is_after p m.0) (viewed v (members_seen es)) in
    let asked : length (viewed v (members_seen es)) ≤ length (members_seen es) = few_viewed v (members_seen es) in
    omega (arith, added n (viewed v (members_seen fs)) taken left f, some, after, asked, length-seen es, le)
