-- Texts that say given requirements are read as these.
use Rattle.std.proofs.Common.{◌≡◌, ℕ, zero, suc, ◌+◌, ◌-◌, ◌<◌, List, [], ◌∷◌, ◌++◌, Bool, true, false, not, ◌&&◌, ◌==◌, nat_lt, None, Some, is_some, codes, length, reverse, take, slice_index, get_or, option_and_then, refl, sym, subst, ap, ap₂, ◌∙◌, arith, append_assoc, append-nil}
use Rattle.std.proofs.lemmas.Bool.Decides.{nat_tests}
use Rattle.std.proofs.lemmas.List.{length-append, get_or_push, reverse-append}
use Rattle.std.proofs.lemmas.List.Folds.{list_any-append}
use Rattle.std.proofs.Math.Seq.{take-append_seam}
use Rattle.std.specs.List.{list_all, list_any, before_first, after_first, onto_first, slice_split, join_with_byte}
use Rattle.spec_api.proofs.Truths.{and_true, left_true, not_both, right_true}
use Rattle.spec_api.specs.declared.selectors.Operator.{Operator}
use Rattle.spec_api.specs.declared.selectors.Operator.TheVariants.{In, NotIn, Exists, DoesNotExist}
use Rattle.spec_api.specs.Labels.{is_label_key, is_label_value}
use Rattle.spec_laws.specs.SelectorForms.{is_sound, text_with, requirement_text, selector_text}
use Rattle.spec_api.specs.SelectorTexts.{is_blank, is_comma, is_equals, is_opening, trimmed, still_inside, parts_from, parts, before_last, compared, compared_requirement, without_equals, set_operator, value_in, listed_values, in_requirement, plain_requirement, unblanked_requirement, requirement, selector_of_text}
use Rattle.spec_api.specs.SelectorValues.{fitting}
use Rattle.spec_api.specs.Selectors.{Requirement, label_key, label_value, each_read, only_if, put_first, requiring}
use Rattle.spec_laws.proofs.SelectorForms.{own-key, own-value}
use Rattle.spec_laws.proofs.SelectorPlain.{is_plain, none, plain-no-blank, plain-no-comma, plain-no-equals, plain-no-opening, plain-no-closing, plain-no-mark, cut-at, key-plain, value-plain, joined-split, begins, begins-plain, trimmed-is, trimmed-plain, ends-with, ends-in}

-- ---- parts

-- whether a text that begins in parentheses or not has no comma outside them, and ends outside
abbrev pub closes : Bool → List ℕ → Bool
closes inside [] = not inside
closes inside (b ∷ t) = not ((b == 44) && not inside) && closes (still_inside inside b) t

abbrev put_before : List ℕ → List (List ℕ) → List (List ℕ)
put_before xs [] = xs ∷ []
put_before xs (p ∷ ps) = (xs ++ p) ∷ ps

put-onto : (b : ℕ) (t : List ℕ) (ps : List (List ℕ)) → onto_first b (put_before t ps) ≡ put_before (b ∷ t) ps
put-onto b t [] = refl
put-onto b t (p ∷ ps) = refl

no-not : (u : Bool) → not u ≡ true → u ≡ false
no-not true h = cc
no-not false h = refl

-- parts are never none
some-parts : (inside : Bool) (t : List ℕ) → put_before [] (parts_from inside t) ≡ parts_from inside t
some-parts inside [] = refl
some-parts inside (b ∷ t) = by ((b == 44) && not inside) refl
  where
    onto : (ps : List (List ℕ)) → put_before [] (onto_first b ps) ≡ onto_first b ps
    onto [] = refl
    onto (p ∷ ps) = refl

    by : (v : Bool) → ((b == 44) && not inside) ≡ v → put_before [] (parts_from inside (b ∷ t)) ≡ parts_from inside (b ∷ t)
    by true e = rw e refl
    by false e = rw e (onto (parts_from (still_inside inside b) t))

passes-on : (inside : Bool) (t u : List ℕ) → closes inside t ≡ true → parts_from inside (t ++ u) ≡ put_before t (parts_from false u)
passes-on true [] u h = cc
passes-on false [] u h = sym (some-parts false u)
passes-on inside (b ∷ t) u h =
    let e = no-not ((b == 44) && not inside) (left_true (not ((b == 44) && not inside)) (closes (still_inside inside b) t) h) in
    let k = right_true (not ((b == 44) && not inside)) (closes (still_inside inside b) t) h in
    rw e (ap (onto_first b) (passes-on (still_inside inside b) t u k) ∙ put-onto b t (parts_from false u))

pub one-part : (t : List ℕ) → closes false t ≡ true → parts t ≡ t ∷ []
one-part t h = ap parts (sym (append-nil t)) ∙ passes-on false t [] h ∙ ap (λ z. z ∷ []) (append-nil t)

pub more-parts : (t u : List ℕ) → closes false t ≡ true → parts (t ++ 44 ∷ u) ≡ t ∷ parts u
more-parts t u h = passes-on false t (44 ∷ u) h ∙ ap (λ z. z ∷ parts u) (append-nil t)

-- plain bytes change nothing
plain-outside : (b : ℕ) → is_plain b ≡ true → ((b == 44) ≡ false) × ((b == 40) ≡ false) × ((b == 41) ≡ false)
plain-outside b h = (plain-no-comma b h, plain-no-opening b h, plain-no-closing b h)

closes-plain : (t u : List ℕ) → list_all is_plain t ≡ true → closes false (t ++ u) ≡ closes false u
closes-plain [] u h = refl
closes-plain (b ∷ t) u h =
    let p = left_true (is_plain b) (list_all is_plain t) h in
    let c : (b == 44) ≡ false = plain-no-comma b p in
    let o : (b == 40) ≡ false = plain-no-opening b p in
    rw (c, o) (closes-plain t u (right_true (is_plain b) (list_all is_plain t) h))

closes-inside : (t u : List ℕ) → list_all is_plain t ≡ true → closes true (t ++ u) ≡ closes true u
closes-inside [] u h = refl
closes-inside (b ∷ t) u h =
    let p = left_true (is_plain b) (list_all is_plain t) h in
    let c : (b == 44) ≡ false = plain-no-comma b p in
    let o : (b == 40) ≡ false = plain-no-opening b p in
    let q : (b == 41) ≡ false = plain-no-closing b p in
    rw (c, o, q) (closes-inside t u (right_true (is_plain b) (list_all is_plain t) h))

abbrev all_plain : List (List ℕ) → Bool
all_plain vs = list_all (λ w. list_all is_plain w) vs

closes-joined : (vs : List (List ℕ)) (u : List ℕ) → all_plain vs ≡ true → closes true (join_with_byte 44 vs ++ u) ≡ closes true u
closes-joined [] u h = refl
closes-joined (v ∷ []) u h = closes-inside v u (left_true (list_all is_plain v) true h)
closes-joined (v ∷ w ∷ vs) u h =
    ap (closes true) (append_assoc v (44 ∷ join_with_byte 44 (w ∷ vs)) u)
    ∙ closes-inside v (44 ∷ (join_with_byte 44 (w ∷ vs) ++ u)) (left_true (list_all is_plain v) (all_plain (w ∷ vs)) h)
    ∙ closes-joined (w ∷ vs) u (right_true (list_all is_plain v) (all_plain (w ∷ vs)) h)

-- ---- ends

at-plain : (t : List ℕ) (i : ℕ) → i < length t → list_all is_plain t ≡ true → is_plain (get_or t i 0) ≡ true
at-plain [] i l h = absurd (omega (arith, l))
at-plain (b ∷ t) zero l h = left_true (is_plain b) (list_all is_plain t) h
at-plain (b ∷ t) (suc i) l h = at-plain t i (omega (arith, l)) (right_true (is_plain b) (list_all is_plain t) h)

some-length : (n : ℕ) → nat_lt 0 n ≡ true → 0 < n
some-length n h = grind (arith, nat_tests)

no-last-mark : (t : List ℕ) → list_all is_plain t ≡ true → before_last 33 t ≡ None
no-last-mark t h = by (nat_lt 0 (length t) && (slice_index t (length t - 1) == 33)) refl
  where
    by : (v : Bool) → (nat_lt 0 (length t) && (slice_index t (length t - 1) == 33)) ≡ v → before_last 33 t ≡ None
    by true e =
        let l = some-length (length t) (left_true (nat_lt 0 (length t)) (slice_index t (length t - 1) == 33) e) in
        let p = at-plain t (length t - 1) (omega (arith, l)) h in
        absurd (not_both (slice_index t (length t - 1) == 33) (right_true (nat_lt 0 (length t)) (slice_index t (length t - 1) == 33) e) (plain-no-mark (get_or t (length t - 1) 0) p))
    by false e = rw e refl

long-enough : (n m : ℕ) → n ≡ m + 1 → nat_lt 0 n ≡ true
long-enough n m h = grind (arith, nat_tests)

same : (b : ℕ) → (b == b) ≡ true
same b = grind (arith, nat_tests)

pub last-here : (t : List ℕ) (b : ℕ) → before_last b (t ++ b ∷ []) ≡ Some t
last-here t b =
    let n : length (t ++ b ∷ []) ≡ length t + 1 = length-append t (b ∷ []) in
    let m : length t ≡ length (t ++ b ∷ []) - 1 = omega (arith, n) in
    let found : get_or (t ++ b ∷ []) (length (t ++ b ∷ []) - 1) 0 ≡ b = get_or_push t b 0 (length (t ++ b ∷ []) - 1) m in
    let here : (slice_index (t ++ b ∷ []) (length (t ++ b ∷ []) - 1) == b) ≡ true = ap (λ x. x == b) found ∙ same b in
    let front : take (length (t ++ b ∷ []) - 1) (t ++ b ∷ []) ≡ t = ap (λ k. take k (t ++ b ∷ [])) (sym m) ∙ take-append_seam t (b ∷ []) in
    ap₂ (λ c x. only_if c x) (and_true (nat_lt 0 (length (t ++ b ∷ []))) (slice_index (t ++ b ∷ []) (length (t ++ b ∷ []) - 1) == b) (long-enough (length (t ++ b ∷ [])) (length t) n) here) front

-- ---- requirements

pub no-key : is_label_key [] ≡ true → ⊥
no-key h = cc

pub not-marked : (b : ℕ) (t : List ℕ) → is_plain b ≡ true → unblanked_requirement (b ∷ t) ≡ plain_requirement (b ∷ t)
not-marked b t h =
    let e : (b == 33) ≡ false = plain-no-mark b h in
    rw e refl

after-key : (k u : List ℕ) → is_label_key k ≡ true → begins (reverse (k ++ u)) ≡ true → requirement (k ++ u) ≡ plain_requirement (k ++ u)
after-key [] u h e = absurd (no-key h)
after-key (b ∷ k) u h e =
    let p = key-plain (b ∷ k) h in
    ap unblanked_requirement (trimmed-is ((b ∷ k) ++ u) (begins-plain (b ∷ k) p) e) ∙ not-marked b (k ++ u) (left_true (is_plain b) (list_all is_plain k) p)

bare : (t : List ℕ) → list_any is_opening t ≡ false → list_any is_equals t ≡ false → plain_requirement t ≡ requiring (label_key t) Exists (Some [])
bare t o e = rw (o, e) refl

begins-back : (t : List ℕ) → list_all is_plain t ≡ true → begins (reverse t) ≡ true
begins-back t h = ends-in [] t h refl

pub exists-read : (k : List ℕ) → is_label_key k ≡ true → requirement k ≡ Some (record { key = k; operator = Exists; values = [] })
exists-read k h =
    let p = key-plain k h in
    let n = append-nil k in
    ap requirement (sym n) ∙ after-key k [] h (ap (λ x. begins (reverse x)) n ∙ begins-back k p) ∙ ap plain_requirement n
    ∙ bare k (none is_opening plain-no-opening k p) (none is_equals plain-no-equals k p)
    ∙ ap (λ x. requiring x Exists (Some [])) (own-key k h)

pub absent-read : (k : List ℕ) → is_label_key k ≡ true → requirement (33 ∷ k) ≡ Some (record { key = k; operator = DoesNotExist; values = [] })
absent-read k h =
    let p = key-plain k h in
    ap unblanked_requirement (trimmed-is (33 ∷ k) refl (ends-in (33 ∷ []) k p refl))
    ∙ ap (λ x. requiring (label_key x) DoesNotExist (Some [])) (trimmed-plain k p)
    ∙ ap (λ x. requiring x DoesNotExist (Some [])) (own-key k h)

pub compares : (t left right : List ℕ) → list_any is_opening t ≡ false → list_any is_equals t ≡ true → before_first is_equals t ≡ left → after_first is_equals t ≡ right
    → plain_requirement t ≡ compared_requirement (compared (before_last 33 left) left right)
compares t left right o e bl ar = rw (o, e) (ap₂ (λ l r. compared_requirement (compared (before_last 33 l) l r)) bl ar)

no-equals : (v : List ℕ) → list_all is_plain v ≡ true → without_equals v ≡ v
no-equals [] h = refl
no-equals (b ∷ v) h = rw (plain-no-equals b (left_true (is_plain b) (list_all is_plain v) h)) refl

one-value : (k v : List ℕ) (o : Operator) → is_label_key k ≡ true → is_label_value v ≡ true
    → requiring (label_key (trimmed k)) o (each_read label_value (trimmed v ∷ [])) ≡ Some (record { key = k; operator = o; values = v ∷ [] })
one-value k v o h g =
    ap₂ (λ x y. requiring (label_key x) o (each_read label_value (y ∷ []))) (trimmed-plain k (key-plain k h)) (trimmed-plain v (value-plain v g))
    ∙ ap₂ (λ x y. requiring x o (put_first y (Some []))) (own-key k h) (own-value v g)

no-opening : (k u : List ℕ) → list_all is_plain k ≡ true → list_any is_opening u ≡ false → list_any is_opening (k ++ u) ≡ false
no-opening k u h g = list_any-append is_opening k u ∙ rw (none is_opening plain-no-opening k h) g

pub equal-read : (k v : List ℕ) → is_label_key k ≡ true → is_label_value v ≡ true → requirement (k ++ 61 ∷ v) ≡ Some (record { key = k; operator = In; values = v ∷ [] })
equal-read k v h g =
    let p = key-plain k h in
    let q = value-plain v g in
    let c = cut-at is_equals k 61 v (none is_equals plain-no-equals k p) refl in
    let e : begins (reverse (k ++ 61 ∷ v)) ≡ true = ap (λ x. begins (reverse x)) (sym (append_assoc k (61 ∷ []) v)) ∙ ends-in (k ++ 61 ∷ []) v q (ends-with k 61 refl) in
    after-key k (61 ∷ v) h e
    ∙ compares (k ++ 61 ∷ v) k v (no-opening k (61 ∷ v) p (none is_opening plain-no-opening v q)) c.0 c.1 c.2
    ∙ ap (λ x. compared_requirement (compared x k v)) (no-last-mark k p)
    ∙ ap (λ x. requiring (label_key (trimmed k)) In (each_read label_value (trimmed x ∷ []))) (no-equals v q)
    ∙ one-value k v In h g

pub unequal-read : (k v : List ℕ) → is_label_key k ≡ true → is_label_value v ≡ true → requirement (k ++ 33 ∷ 61 ∷ v) ≡ Some (record { key = k; operator = NotIn; values = v ∷ [] })
unequal-read k v h g =
    let p = key-plain k h in
    let q = value-plain v g in
    let a : (k ++ 33 ∷ []) ++ 61 ∷ v ≡ k ++ 33 ∷ 61 ∷ v = append_assoc k (33 ∷ []) (61 ∷ v) in
    let n : list_any is_equals (k ++ 33 ∷ []) ≡ false = list_any-append is_equals k (33 ∷ []) ∙ rw (none is_equals plain-no-equals k p) refl in
    let c = cut-at is_equals (k ++ 33 ∷ []) 61 v n refl in
    let e : begins (reverse (k ++ 33 ∷ 61 ∷ v)) ≡ true =
    ap (λ x. begins (reverse x)) (sym (append_assoc k (33 ∷ 61 ∷ []) v)) ∙ ends-in (k ++ 33 ∷ 61 ∷ []) v q (ap (λ x. begins (reverse x)) (sym (append_assoc k (33 ∷ []) (61 ∷ []))) ∙ ends-with (k ++ 33 ∷ []) 61 refl) in
    after-key k (33 ∷ 61 ∷ v) h e
    ∙ compares (k ++ 33 ∷ 61 ∷ v) (k ++ 33 ∷ []) v (no-opening k (33 ∷ 61 ∷ v) p (none is_opening plain-no-opening v q)) (ap (list_any is_equals) (sym a) ∙ c.0) (ap (before_first is_equals) (sym a) ∙ c.1) (ap (after_first is_equals) (sym a) ∙ c.2)
    ∙ ap (λ x. compared_requirement (compared x (k ++ 33 ∷ []) v)) (last-here k 33)
    ∙ one-value k v NotIn h g

-- ---- lists of values

cons-length : (n : ℕ) → 0 < n → (n == 0) ≡ false
cons-length n h = grind (arith, nat_tests)

more-than-none : (v u : List ℕ) → 0 < length (v ++ 44 ∷ u)
more-than-none [] u = omega arith
more-than-none (b ∷ v) u = omega arith

ends-after : (t v : List ℕ) → begins (reverse v) ≡ true → begins (reverse t) ≡ true → begins (reverse (t ++ v)) ≡ true
ends-after t v h k = ap begins (reverse-append t v) ∙ by (reverse v) h
  where
    by : (r : List ℕ) → begins r ≡ true → begins (r ++ reverse t) ≡ true
    by [] e = k
    by (b ∷ r) e = e

ends-joined : (v : List ℕ) (vs : List (List ℕ)) → all_plain (v ∷ vs) ≡ true → begins (reverse (join_with_byte 44 (v ∷ vs))) ≡ true
ends-joined v [] h = begins-back v (left_true (list_all is_plain v) true h)
ends-joined v (w ∷ vs) h =
    ap (λ x. begins (reverse x)) (sym (append_assoc v (44 ∷ []) (join_with_byte 44 (w ∷ vs))))
    ∙ ends-after (v ++ 44 ∷ []) (join_with_byte 44 (w ∷ vs)) (ends-joined w vs (right_true (list_all is_plain v) (all_plain (w ∷ vs)) h)) (ends-with v 44 refl)

begins-joined : (v : List ℕ) (u : List ℕ) → list_all is_plain v ≡ true → begins (v ++ 44 ∷ u) ≡ true
begins-joined [] u h = refl
begins-joined (b ∷ v) u h = begins-plain (b ∷ v) h

values-plain : (vs : List (List ℕ)) → list_all is_label_value vs ≡ true → all_plain vs ≡ true
values-plain [] h = refl
values-plain (v ∷ vs) h =
    and_true (list_all is_plain v) (all_plain vs) (value-plain v (left_true (is_label_value v) (list_all is_label_value vs) h)) (values-plain vs (right_true (is_label_value v) (list_all is_label_value vs) h))

values-read : (vs : List (List ℕ)) → list_all is_label_value vs ≡ true → each_read value_in vs ≡ Some vs
values-read [] h = refl
values-read (v ∷ vs) h =
    let g = left_true (is_label_value v) (list_all is_label_value vs) h in
    ap₂ put_first (ap label_value (trimmed-plain v (value-plain v g)) ∙ own-value v g) (values-read vs (right_true (is_label_value v) (list_all is_label_value vs) h))

listed-if : (j : List ℕ) → trimmed j ≡ j → (length j == 0) ≡ false → listed_values j ≡ each_read value_in (slice_split is_comma j)
listed-if j t l = rw (t, l) refl

listed-read : (v w : List ℕ) (vs : List (List ℕ)) → list_all is_label_value (v ∷ w ∷ vs) ≡ true → listed_values (join_with_byte 44 (v ∷ w ∷ vs)) ≡ Some (v ∷ w ∷ vs)
listed-read v w vs h =
    let p = values-plain (v ∷ w ∷ vs) h in
    let u = join_with_byte 44 (w ∷ vs) in
    let j = join_with_byte 44 (v ∷ w ∷ vs) in
    let b : begins j ≡ true = begins-joined v u (left_true (list_all is_plain v) (all_plain (w ∷ vs)) p) in
    listed-if j (trimmed-is j b (ends-joined v (w ∷ vs) p)) (cons-length (length j) (more-than-none v u))
    ∙ ap (each_read value_in) (joined-split v (w ∷ vs) p)
    ∙ values-read (v ∷ w ∷ vs) h

pub lists : (t head list : List ℕ) → list_any is_opening t ≡ true → before_first is_opening t ≡ head → after_first is_opening t ≡ list → plain_requirement t ≡ in_requirement head list
lists t head list o bh al = rw o (ap₂ in_requirement bh al)

-- `k`, a blank, a word and a blank, and the values in parentheses
abbrev pub listing : List ℕ → List ℕ → List (List ℕ) → List ℕ
listing k word vs = (k ++ 32 ∷ word) ++ 40 ∷ (join_with_byte 44 vs ++ 41 ∷ [])

pub listing-read : (k word v w : List ℕ) (vs : List (List ℕ)) (o : Operator) → is_label_key k ≡ true → list_all is_label_value (v ∷ w ∷ vs) ≡ true
    → list_any is_opening word ≡ false → set_operator (trimmed word) ≡ Some o
    → requirement (listing k word (v ∷ w ∷ vs)) ≡ Some (record { key = k; operator = o; values = v ∷ w ∷ vs })
listing-read k word v w vs o h g n s =
    let p = key-plain k h in
    let j = join_with_byte 44 (v ∷ w ∷ vs) in
    let head = k ++ 32 ∷ word in
    let list = j ++ 41 ∷ [] in
    let t = head ++ 40 ∷ list in
    let a : t ≡ k ++ ((32 ∷ word) ++ 40 ∷ list) = append_assoc k (32 ∷ word) (40 ∷ list) in
    let e : begins (reverse t) ≡ true = ap (λ x. begins (reverse x)) (sym (append_assoc head (40 ∷ j) (41 ∷ []))) ∙ ends-with (head ++ 40 ∷ j) 41 refl in
    let c = cut-at is_opening head 40 list (no-opening k (32 ∷ word) p n) refl in
    let d = cut-at is_blank k 32 word (none is_blank plain-no-blank k p) refl in
    ap requirement a ∙ after-key k ((32 ∷ word) ++ 40 ∷ list) h (ap (λ x. begins (reverse x)) (sym a) ∙ e) ∙ ap plain_requirement (sym a)
    ∙ lists t head list c.0 c.1 c.2
    ∙ ap₂ (λ x y. option_and_then (λ (p : Operator). requiring (label_key x) p (option_and_then listed_values (before_last 41 list))) (set_operator (trimmed y))) d.1 d.2
    ∙ ap₂ (λ x y. option_and_then (λ (p : Operator). requiring x p (option_and_then listed_values (before_last 41 list))) y) (own-key k h) s
    ∙ ap (λ x. requiring (Some k) o (option_and_then listed_values x)) (last-here j 41)
    ∙ ap (λ x. requiring (Some k) o x) (listed-read v w vs g)

-- ---- requirements of every form

closes-key : (k : List ℕ) → list_all is_plain k ≡ true → closes false k ≡ true
closes-key k h = ap (closes false) (sym (append-nil k)) ∙ closes-plain k [] h

closes-listing : (k word : List ℕ) (vs : List (List ℕ)) → list_all is_plain k ≡ true → all_plain vs ≡ true → ((u : List ℕ) → closes false (32 ∷ word ++ 40 ∷ u) ≡ closes true u) → closes false (listing k word vs) ≡ true
closes-listing k word vs h g f =
    ap (closes false) (append_assoc k (32 ∷ word) (40 ∷ (join_with_byte 44 vs ++ 41 ∷ [])))
    ∙ closes-plain k (32 ∷ word ++ 40 ∷ (join_with_byte 44 vs ++ 41 ∷ [])) h
    ∙ f (join_with_byte 44 vs ++ 41 ∷ [])
    ∙ closes-joined vs (41 ∷ []) g

-- what is shown of a requirement's text: it is one part, is read as the requirement, and is not empty
abbrev IsText : List ℕ → Requirement → Type 0
IsText t r = (closes false t ≡ true) × (requirement t ≡ Some r) × (0 < length t)

some-key : (k u : List ℕ) → is_label_key k ≡ true → 0 < length (k ++ u)
some-key [] u h = absurd (no-key h)
some-key (b ∷ k) u h = omega arith

word-in : set_operator (trimmed (105 ∷ 110 ∷ 32 ∷ [])) ≡ Some In
word-in = refl

word-notin : set_operator (trimmed (110 ∷ 111 ∷ 116 ∷ 105 ∷ 110 ∷ 32 ∷ [])) ≡ Some NotIn
word-notin = refl

listing-length : (k u : List ℕ) → is_label_key k ≡ true → (word : List ℕ) → 0 < length ((k ++ 32 ∷ word) ++ u)
listing-length k u h word = subst (λ t. 0 < length t) (sym (append_assoc k (32 ∷ word) u)) (some-key k ((32 ∷ word) ++ u) h)

text-of-listing : (k word v w : List ℕ) (vs : List (List ℕ)) (o : Operator) → is_label_key k ≡ true → list_all is_label_value (v ∷ w ∷ vs) ≡ true
    → list_any is_opening word ≡ false → set_operator (trimmed word) ≡ Some o → ((u : List ℕ) → closes false (32 ∷ word ++ 40 ∷ u) ≡ closes true u)
    → IsText (listing k word (v ∷ w ∷ vs)) (record { key = k; operator = o; values = v ∷ w ∷ vs })
text-of-listing k word v w vs o h g n s f =
    (closes-listing k word (v ∷ w ∷ vs) (key-plain k h) (values-plain (v ∷ w ∷ vs) g) f, listing-read k word v w vs o h g n s, listing-length k (40 ∷ (join_with_byte 44 (v ∷ w ∷ vs) ++ 41 ∷ [])) h word)

text-of-equality : (k v : List ℕ) → is_label_key k ≡ true → is_label_value v ≡ true → IsText (k ++ 61 ∷ v) (record { key = k; operator = In; values = v ∷ [] })
text-of-equality k v h g = (closes-plain k (61 ∷ v) (key-plain k h) ∙ closes-key v (value-plain v g), equal-read k v h g, some-key k (61 ∷ v) h)

text-of-inequality : (k v : List ℕ) → is_label_key k ≡ true → is_label_value v ≡ true → IsText (k ++ 33 ∷ 61 ∷ v) (record { key = k; operator = NotIn; values = v ∷ [] })
text-of-inequality k v h g = (closes-plain k (33 ∷ 61 ∷ v) (key-plain k h) ∙ closes-key v (value-plain v g), unequal-read k v h g, some-key k (33 ∷ 61 ∷ v) h)

in-listing : (k v w : List ℕ) (vs : List (List ℕ)) → listing k (105 ∷ 110 ∷ 32 ∷ []) (v ∷ w ∷ vs) ≡ text_with In k (v ∷ w ∷ vs)
in-listing k v w vs = append_assoc k (32 ∷ 105 ∷ 110 ∷ 32 ∷ []) (40 ∷ (join_with_byte 44 (v ∷ w ∷ vs) ++ 41 ∷ []))

notin-listing : (k v w : List ℕ) (vs : List (List ℕ)) → listing k (110 ∷ 111 ∷ 116 ∷ 105 ∷ 110 ∷ 32 ∷ []) (v ∷ w ∷ vs) ≡ text_with NotIn k (v ∷ w ∷ vs)
notin-listing k v w vs = append_assoc k (32 ∷ 110 ∷ 111 ∷ 116 ∷ 105 ∷ 110 ∷ 32 ∷ []) (40 ∷ (join_with_byte 44 (v ∷ w ∷ vs) ++ 41 ∷ []))

text-of : (o : Operator) (k : List ℕ) (vs : List (List ℕ)) → is_label_key k ≡ true → list_all is_label_value vs ≡ true → is_some (fitting o vs) ≡ true → IsText (text_with o k vs) (record { key = k; operator = o; values = vs })
text-of In k [] h g f = cc
text-of In k (v ∷ []) h g f = text-of-equality k v h (left_true (is_label_value v) true g)
text-of In k (v ∷ w ∷ vs) h g f =
    subst (λ t. IsText t (record { key = k; operator = In; values = v ∷ w ∷ vs })) (in-listing k v w vs)
    (text-of-listing k (105 ∷ 110 ∷ 32 ∷ []) v w vs In h g refl word-in (λ u. refl))
text-of NotIn k [] h g f = cc
text-of NotIn k (v ∷ []) h g f = text-of-inequality k v h (left_true (is_label_value v) true g)
text-of NotIn k (v ∷ w ∷ vs) h g f =
    subst (λ t. IsText t (record { key = k; operator = NotIn; values = v ∷ w ∷ vs })) (notin-listing k v w vs)
    (text-of-listing k (110 ∷ 111 ∷ 116 ∷ 105 ∷ 110 ∷ 32 ∷ []) v w vs NotIn h g refl word-notin (λ u. refl))
text-of Exists k [] h g f = (closes-key k (key-plain k h), exists-read k h, subst (λ t. 0 < length t) (append-nil k) (some-key k [] h))
text-of Exists k (v ∷ vs) h g f = cc
text-of DoesNotExist k [] h g f = (closes-key k (key-plain k h), absent-read k h, omega arith)
text-of DoesNotExist k (v ∷ vs) h g f = cc

sound-text : (r : Requirement) → is_sound r ≡ true → IsText (requirement_text r) r
sound-text r h =
    let kv = is_label_key r.key && list_all is_label_value r.values in
    let f = is_some (fitting r.operator r.values) in
    text-of r.operator r.key r.values (left_true (is_label_key r.key) (list_all is_label_value r.values) (left_true kv f h)) (right_true (is_label_key r.key) (list_all is_label_value r.values) (left_true kv f h)) (right_true kv f h)

parts-read : (r : Requirement) (rs : List Requirement) → list_all is_sound (r ∷ rs) ≡ true → each_read requirement (parts (selector_text (r ∷ rs))) ≡ Some (r ∷ rs)
parts-read r [] h =
    let t = sound-text r (left_true (is_sound r) true h) in
    ap (each_read requirement) (one-part (requirement_text r) t.0) ∙ ap (λ x. put_first x (Some [])) t.1
parts-read r (s ∷ rs) h =
    let t = sound-text r (left_true (is_sound r) (list_all is_sound (s ∷ rs)) h) in
    let u = selector_text (s ∷ rs) in
    ap (each_read requirement) (more-parts (requirement_text r) u t.0)
    ∙ ap₂ put_first t.1 (parts-read s rs (right_true (is_sound r) (list_all is_sound (s ∷ rs)) h))

pub said : (t : List ℕ) → 0 < length t → selector_of_text t ≡ each_read requirement (parts t)
said [] l = absurd (no-length l)
  where
    no-length : 0 < length {A = ℕ} [] → ⊥
    no-length l = omega (arith, l)
said (b ∷ t) l = refl

longer : (t u : List ℕ) → 0 < length t → 0 < length (t ++ u)
longer t u l = omega (arith, l, length-append t u)

text-length : (r : Requirement) (rs : List Requirement) → list_all is_sound (r ∷ rs) ≡ true → 0 < length (selector_text (r ∷ rs))
text-length r [] h = let t = sound-text r (left_true (is_sound r) true h) in t.2
text-length r (s ∷ rs) h =
    let t = sound-text r (left_true (is_sound r) (list_all is_sound (s ∷ rs)) h) in
    longer (requirement_text r) (44 ∷ selector_text (s ∷ rs)) t.2

pub text-read : (rs : List Requirement) → list_all is_sound rs ≡ true → selector_of_text (selector_text rs) ≡ Some rs
text-read [] h = refl
text-read (r ∷ rs) h = said (selector_text (r ∷ rs)) (text-length r rs h) ∙ parts-read r rs h

one-pair : (k v : List ℕ) → is_label_key k ≡ true → is_label_value v ≡ true → is_sound (record { key = k; operator = In; values = v ∷ [] }) ≡ true
one-pair k v h g = and_true (is_label_key k && (is_label_value v && true)) true (and_true (is_label_key k) (is_label_value v && true) h (and_true (is_label_value v) true g refl)) refl

pub equality-read : (k v : List ℕ) → is_label_key k ≡ true → is_label_value v ≡ true → selector_of_text (k ++ (codes "=" ++ v)) ≡ Some (record { key = k; operator = In; values = v ∷ [] } ∷ [])
equality-read k v h g = let r : Requirement = record { key = k; operator = In; values = v ∷ [] } in text-read (r ∷ []) (and_true (is_sound r) true (one-pair k v h g) refl)
