-- Pages, and what remains after them.
use Rattle.std.proofs.Common.{zero, suc, ◌≡◌, ◌≤◌, ◌<◌, ◌+◌, ◌-◌, ℕ, ◌==◌, ◌&&◌, [], ◌∷◌, ◌++◌, length, map, take, drop, filter, Bool, true, false, cond, Option, Some, None, Ordering, Less, Equal, Greater, refl, sym, ap, ◌∙◌, subst, append_assoc, arith, nat_le, nat_eq}
use Rattle.std.specs.Cmp.{IsTotalOrder, then_total, on_total, nat_cmp_total}
use Rattle.std.specs.Ordering.{is_lt, ordering_reverse, ordering_then, nat_cmp}
use Rattle.std.specs.List.{AllByRecursion}
use Rattle.std.specs.List.Sorted.{IsStrictlySortedBy}
use Rattle.std.proofs.lemmas.Bool.Decides.{nat_tests}
use Rattle.std.proofs.lemmas.Bool.{le-leb}
use Rattle.std.proofs.lemmas.Cmp.{nat_list_cmp_total}
use Rattle.std.proofs.lemmas.List.{take-append-drop, length-take}
use Rattle.serde_json.specs.Data.{Data}
use Rattle.spec_api.proofs.Truths.{left_true}
use Rattle.spec_api.specs.Kinds.{rank}
use Rattle.spec_api.specs.Metadata.{labels_of}
use Rattle.spec_api.specs.SelectorFields.{fields_meet}
use Rattle.spec_api.specs.Selectors.{meets_all}
use Rattle.spec_api.specs.Keys.{Key, key_cmp}
use Rattle.spec_api.specs.History.{History, View, Entries, viewed, in_view, in_namespace, list, up_to, entries_at}
use Rattle.spec_api.specs.Pages.{Place, place_of, place_cmp, after_place, last_place, page_of, remaining, AreInPlace}
use Rattle.spec_api.proofs.PutLaws.{IsAbove, IsAscending, IsAscending-after_all}

abbrev pub order : Key → Key → Ordering
order a b = place_cmp (place_of a) (place_of b)

pub place_total : IsTotalOrder place_cmp
place_total = then_total (on_total (λ (p : Place). p.namespace) nat_list_cmp_total) (on_total (λ (p : Place). p.name) nat_list_cmp_total)

reversed : (r : Ordering) → r ≡ ordering_reverse r → r ≡ Equal
reversed Less h = cc
reversed Equal h = refl
reversed Greater h = cc

itself : (p : Place) → place_cmp p p ≡ Equal
itself p = reversed (place_cmp p p) (place_total.antisymm p p)

abbrev later : Place → Entries → Entries
later p ms = filter (λ m. is_lt (place_cmp p (place_of m.0))) ms

-- above a place all are after it
all_later : (k : Key) (ms : Entries) → IsAbove order k ms → later (place_of k) ms ≡ ms
all_later k [] a = refl
all_later k (m ∷ ms) a = rw a.0 (ap (λ z. m ∷ z) (all_later k ms a.1))

in_middle : (j : Key) (es : Entries) (e : Key × Data) (more : Entries) → IsAbove order j (es ++ e ∷ more) → order j e.0 ≡ Less
in_middle j [] e more h = h.0
in_middle j (f ∷ es) e more h = in_middle j es e more h.1

-- after the place of a member come those that follow it
rest_later : (xs : Entries) (m : Key × Data) (ys : Entries) → IsAscending order (xs ++ m ∷ ys) → later (place_of m.0) (xs ++ m ∷ ys) ≡ ys
rest_later [] m ys a = rw (itself (place_of m.0)) (all_later m.0 ys a.0)
rest_later (x ∷ xs) m ys a =
    let below : place_cmp (place_of m.0) (place_of x.0) ≡ Greater = place_total.antisymm (place_of m.0) (place_of x.0) ∙ ap ordering_reverse (in_middle x.0 xs m ys a.0) in
    rw below (rest_later xs m ys a.1)

no_some : (q : Place) → (let n : Option Place = None in n ≡ Some q) → ⊥
no_some q h = cc

not_false : true ≡ false → ⊥
not_false h = cc

last_split : (xs : Entries) (q : Place) → last_place xs ≡ Some q → (cs : Entries) × (m : Key × Data) × (xs ≡ cs ++ m ∷ []) × (Some (place_of m.0) ≡ Some q)
last_split [] q h = absurd (no_some q h)
last_split (m ∷ []) q h = ([], m, refl, h)
last_split (m ∷ n ∷ ms) q h = let s = last_split (n ∷ ms) q h in (m ∷ s.0, s.1, ap (λ z. m ∷ z) s.2, s.3)

last_there : (m : Key × Data) (ms : Entries) → last_place (m ∷ ms) ≡ None → ⊥
last_there m [] h = cc
last_there m (n ∷ ms) h = last_there n ms h

some_taken : (n : ℕ) (xs : Entries) → nat_eq n 0 ≡ false → nat_le (length xs) n ≡ false → last_place (take n xs) ≡ None → ⊥
some_taken zero xs h l e = not_false h
some_taken (suc n) [] h l e = not_false (sym (le-leb 0 (suc n) (omega arith)) ∙ l)
some_taken (suc n) (x ∷ xs) h l e = last_there x (take n xs) e

-- a page without a next has all that is left
pub no_next : (ms : Entries) (n : ℕ) (p : Option Place) (b c : Bool) → nat_eq n 0 ≡ b → nat_le (length (after_place p ms)) n ≡ c → (page_of ms n p).next ≡ None → (page_of ms n p).items ≡ after_place p ms
no_next ms n p true c h l e = rw h refl
no_next ms n p false true h l e = rw (h, l) refl
no_next ms n p false false h l e =
    let is : (page_of ms n p).next ≡ last_place (take n (after_place p ms)) = rw (h, l) refl in
    absurd (some_taken n (after_place p ms) h l (sym is ∙ e))

-- another has the first of what is left
abbrev Next : Entries → ℕ → Option Place → Place → Type 0
Next ms n p q = ((page_of ms n p).items ≡ take n (after_place p ms)) × (last_place (take n (after_place p ms)) ≡ Some q)

pub has_next : (ms : Entries) (n : ℕ) (p : Option Place) (q : Place) (b c : Bool) → nat_eq n 0 ≡ b → nat_le (length (after_place p ms)) n ≡ c → (page_of ms n p).next ≡ Some q → Next ms n p q
has_next ms n p q true c h l e = let is : (page_of ms n p).next ≡ None = rw h refl in absurd (no_some q (sym is ∙ e))
has_next ms n p q false true h l e = let is : (page_of ms n p).next ≡ None = rw (h, l) refl in absurd (no_some q (sym is ∙ e))
has_next ms n p q false false h l e =
    let is : (page_of ms n p).next ≡ last_place (take n (after_place p ms)) = rw (h, l) refl in
    (rw (h, l) refl, sym is ∙ e)

pub left_after : (ms front : Entries) (n : ℕ) (rest : Entries) (q : Place) → IsAscending order ms → ms ≡ front ++ rest → last_place (take n rest) ≡ Some q → after_place (Some q) ms ≡ drop n rest
left_after ms front n rest q a is e =
    let s = last_split (take n rest) q e in
    let whole : ms ≡ (front ++ s.0) ++ s.1 ∷ drop n rest =
    is ∙ ap (λ z. front ++ z) (sym (take-append-drop n rest) ∙ ap (λ z. z ++ drop n rest) s.2 ∙ append_assoc s.0 (s.1 ∷ []) (drop n rest)) ∙ sym (append_assoc front s.0 (s.1 ∷ drop n rest)) in
    ap (λ o. after_place o ms) (sym s.3) ∙ ap (later (place_of s.1.0)) whole ∙ rest_later (front ++ s.0) s.1 (drop n rest) (subst (IsAscending order) whole a)

-- ---- lists are in the order of places

then_same : (r : Ordering) (x : Ordering) → r ≡ Equal → ordering_then r x ≡ x
then_same Less x h = cc
then_same Equal x h = refl
then_same Greater x h = cc

same_rank : (v : View) (a : Key) (d : Data) → in_view v a d ≡ true → rank v.kind ≡ rank a.kind
same_rank v a d h =
    let kinds = rank v.kind == rank a.kind in
    let namespaces = in_namespace v.namespace a.namespace in
    let labels = meets_all v.labels (labels_of d) in
    let b : kinds ≡ true = left_true kinds namespaces (left_true (kinds && namespaces) labels (left_true (kinds && namespaces && labels) (fields_meet v.fields a.name a.namespace) h)) in
    grind (arith, nat_tests)

nat_self : (n : ℕ) → nat_cmp n n ≡ Equal
nat_self n = reversed (nat_cmp n n) (nat_cmp_total.antisymm n n)

same_order : (v : View) (a b : Key) (d e : Data) → in_view v a d ≡ true → in_view v b e ≡ true → order a b ≡ key_cmp a b
same_order v a b d e g h =
    let ranks : rank a.kind ≡ rank b.kind = sym (same_rank v a d g) ∙ same_rank v b e h in
    sym (then_same (nat_cmp (rank a.kind) (rank b.kind)) (order a b) (ap (nat_cmp (rank a.kind)) (sym ranks) ∙ nat_self (rank a.kind)))

above_cond : (v : View) (k : Key) (d : Data) (b : Bool) (e : Key × Data) (es : Entries) → in_view v k d ≡ true → in_view v e.0 e.1 ≡ b → key_cmp k e.0 ≡ Less → IsAbove order k es → IsAbove order k (cond b (e ∷ es) es)
above_cond v k d true e es g h l a = (same_order v k e.0 d e.1 g h ∙ l, a)
above_cond v k d false e es g h l a = a

above_viewed : (v : View) (k : Key) (d : Data) (es : Entries) → in_view v k d ≡ true → IsAbove key_cmp k es → IsAbove order k (viewed v es)
above_viewed v k d [] g a = tt
above_viewed v k d (e ∷ es) g a = above_cond v k d (in_view v e.0 e.1) e (viewed v es) g refl a.0 (above_viewed v k d es g a.1)

ascending_cond : (v : View) (b : Bool) (e : Key × Data) (es : Entries) → in_view v e.0 e.1 ≡ b → IsAbove key_cmp e.0 es → IsAscending order (viewed v es) → IsAscending order (cond b (e ∷ viewed v es) (viewed v es))
ascending_cond v true e es g a s = (above_viewed v e.0 e.1 es g a, s)
ascending_cond v false e es g a s = s

pub ascending_viewed : (v : View) (es : Entries) → IsAscending key_cmp es → IsAscending order (viewed v es)
ascending_viewed v [] a = tt
ascending_viewed v (e ∷ es) a = ascending_cond v (in_view v e.0 e.1) e es refl a.0 (ascending_viewed v es a.1)

pub ascending_list : (h : History) (v : View) (r : ℕ) → IsAscending order (list h v r)
ascending_list h v r = ascending_viewed v (entries_at h r) (IsAscending-after_all [] (up_to r h) (tt {0}))

pub all_after : (ms : Entries) → after_place None ms ≡ ms
all_after [] = refl
all_after (m ∷ ms) = ap (λ z. m ∷ z) (all_after ms)

all_below : (k : Key) (ms : Entries) → IsAbove order k ms → AllByRecursion (λ y. place_cmp (place_of k) y ≡ Less) (map (λ m. place_of m.0) ms)
all_below k [] a = tt
all_below k (m ∷ ms) a = (a.0, all_below k ms a.1)

pub in_place_from : (ms : Entries) → IsAscending order ms → AreInPlace ms
unfolding IsStrictlySortedBy
in_place_from [] a = tt
in_place_from (m ∷ ms) a = (all_below m.0 ms a.0, in_place_from ms a.1)

pub lists_are_in_place : (h : History) (v : View) (r : ℕ) → AreInPlace (list h v r)
lists_are_in_place h v r = in_place_from (list h v r) (ascending_list h v r)

-- ---- limits and what remains

pub has_limit : (ms : Entries) (n : ℕ) (p : Option Place) (b c : Bool) → nat_eq n 0 ≡ b → nat_le (length (after_place p ms)) n ≡ c → 0 < n → length (page_of ms n p).items ≤ n
has_limit ms n p true c h l k = absurd (grind (arith, nat_tests))
has_limit ms n p false true h l k = rw (h, l) (grind (arith, nat_tests))
has_limit ms n p false false h l k = rw (h, l) (omega (arith, length-take n (after_place p ms)))

pub adds_up : (ms : Entries) (n : ℕ) (p : Option Place) (b c : Bool) → nat_eq n 0 ≡ b → nat_le (length (after_place p ms)) n ≡ c → length (page_of ms n p).items + remaining ms n p ≡ length (after_place p ms)
adds_up ms n p true c h l = rw h (omega arith)
adds_up ms n p false true h l = let le : length (after_place p ms) ≤ n = grind (arith, nat_tests) in rw (h, l) (omega (arith, le))
adds_up ms n p false false h l = let lt : n < length (after_place p ms) = grind (arith, nat_tests) in rw (h, l) (omega (arith, lt, length-take n (after_place p ms)))

pub nothing_remains : (ms : Entries) (n : ℕ) (p : Option Place) → (page_of ms n p).next ≡ None → remaining ms n p ≡ 0
nothing_remains ms n p e =
    let all : length (page_of ms n p).items ≡ length (after_place p ms) = ap length (no_next ms n p (nat_eq n 0) (nat_le (length (after_place p ms)) n) refl refl e) in
    omega (arith, all, adds_up ms n p (nat_eq n 0) (nat_le (length (after_place p ms)) n) refl refl)

pub next_is_last : (ms : Entries) (n : ℕ) (p : Option Place) (b c : Bool) → nat_eq n 0 ≡ b → nat_le (length (after_place p ms)) n ≡ c → (page_of ms n p).next ≡ cond (remaining ms n p == 0) None (last_place (page_of ms n p).items)
next_is_last ms n p true c h l = rw h refl
next_is_last ms n p false true h l = let none : (length (after_place p ms) - n == 0) ≡ true = grind (arith, nat_tests) in rw (h, l, none) refl
next_is_last ms n p false false h l = let some : (length (after_place p ms) - n == 0) ≡ false = grind (arith, nat_tests) in rw (h, l, some) refl
