-- Texts of keys, and of keys compared with values, are read as they are written.
use Rattle.std.proofs.Common.{◌≡◌, ◌⊎◌, ℕ, ◌-◌, ◌<◌, List, [], ◌∷◌, ◌++◌, Bool, true, false, true≢false, not, ◌&&◌, ◌||◌, ◌==◌, nat_lt, None, Some, codes, length, reverse, slice_index, get_or, inl, inr, refl, sym, subst, ap, ap₂, ◌∙◌, arith, append_assoc, append-nil}
use Rattle.std.proofs.lemmas.Bool.Decides.{nat_tests}
use Rattle.std.proofs.lemmas.List.{length-append}
use Rattle.std.proofs.lemmas.List.Folds.{list_any-append}
use Rattle.std.specs.List.{list_all, list_any}
use Rattle.spec_api.proofs.Truths.{left_true, right_true}
use Rattle.spec_api.specs.declared.selectors.Operator.{Operator}
use Rattle.spec_api.specs.declared.selectors.Operator.TheVariants.{In, NotIn, Exists, DoesNotExist}
use Rattle.spec_api.specs.Labels.{is_label_key, is_label_value}
use Rattle.spec_laws.specs.SelectorGrammar.{AreBlanks, IsValueText, IsKeyText, IsNegatedText, IsComparedText}
use Rattle.spec_api.specs.Selectors.{label_key, label_value, each_read, put_first, requiring}
use Rattle.spec_api.specs.SelectorTexts as texts
use Rattle.spec_api.specs.SelectorTexts.{is_comma, is_equals, is_opening, trimmed, before_last, compared_requirement, without_equals, plain_requirement, unblanked_requirement, requirement}
use Rattle.spec_laws.proofs.SelectorBlanks.{ends-plain, is_soft, soft-no-comma, soft-no-equals, soft-no-opening, soft-no-mark, all-append, all-none, all-at, soft-plain, soft-blanks, shortened, trimmed-over, trimmed-around, trimmed-plain-around, trimmed-plain-after, trimmed-plain-before, trimmed-shortened, all-shortened}
use Rattle.spec_laws.proofs.SelectorForms.{own-key, own-value}
use Rattle.spec_laws.proofs.SelectorPlain.{is_plain, cut-at, key-plain, value-plain, begins, begins-plain, ends-with, trimmed-plain}
use Rattle.spec_laws.proofs.SelectorTextsRead.{closes, last-here, not-marked, compares, no-key, exists-read}

-- what is shown of a requirement's text: it is one part, is read as the requirement, and is not empty
abbrev pub IsRead : List ℕ → List ℕ → Operator → List (List ℕ) → Type 0
IsRead t k o vs = (closes false t ≡ true) × (requirement t ≡ Some (record { key = k; operator = o; values = vs })) × (0 < length t)

-- ---- parts

pub closes-soft : (t u : List ℕ) → list_all is_soft t ≡ true → closes false (t ++ u) ≡ closes false u
closes-soft [] u h = refl
closes-soft (b ∷ t) u h =
    let p = left_true (is_soft b) (list_all is_soft t) h in
    let c : (b == 44) ≡ false = soft-no-comma b p in
    let o : (b == 40) ≡ false = soft-no-opening b p in
    rw (c, o) (closes-soft t u (right_true (is_soft b) (list_all is_soft t) h))

pub closes-only : (t : List ℕ) → list_all is_soft t ≡ true → closes false t ≡ true
closes-only t h = ap (closes false) (sym (append-nil t)) ∙ closes-soft t [] h

-- what stands between parentheses
abbrev pub is_inner : ℕ → Bool
is_inner b = is_soft b || is_comma b

inner-no-closing : (b : ℕ) → is_inner b ≡ true → (b == 41) ≡ false
inner-no-closing b h = grind (arith, nat_tests)

pub inner-soft : (b : ℕ) → is_soft b ≡ true → is_inner b ≡ true
inner-soft b h = rw h refl

not-and : (a : Bool) → (a && false) ≡ false
not-and true = refl
not-and false = refl

or-true : (a : Bool) → (a || true) ≡ true
or-true true = refl
or-true false = refl

pub closes-inner : (t u : List ℕ) → list_all is_inner t ≡ true → closes true (t ++ u) ≡ closes true u
closes-inner [] u h = refl
closes-inner (b ∷ t) u h =
    let q : (b == 41) ≡ false = inner-no-closing b (left_true (is_inner b) (list_all is_inner t) h) in
    ap₂ (λ x y. not x && closes y (t ++ u)) (not-and (b == 44)) (ap (λ c. (b == 40) || (true && not c)) q ∙ or-true (b == 40))
    ∙ closes-inner t u (right_true (is_inner b) (list_all is_inner t) h)

pub some-text : (t u : List ℕ) (b : ℕ) → 0 < length (t ++ b ∷ u)
some-text t u b = omega (arith, length-append t (b ∷ u))

-- ---- `k` and `!k`

soft-around : (a v z : List ℕ) → AreBlanks a → AreBlanks z → list_all is_plain v ≡ true → list_all is_soft (a ++ (v ++ z)) ≡ true
soft-around a v z h g p = all-append is_soft a (v ++ z) (soft-blanks a h) (all-append is_soft v z (soft-plain v p) (soft-blanks z g))

key-soft : (t k : List ℕ) → IsKeyText t k → list_all is_soft t ≡ true
key-soft t k w = ap (list_all is_soft) w.is ∙ soft-around w.before k w.after w.is_before w.is_after (key-plain k w.is_key)

pub value-soft : (t v : List ℕ) → IsValueText t v → list_all is_soft t ≡ true
value-soft t v w = ap (list_all is_soft) w.is ∙ soft-around w.before v w.after w.is_before w.is_after (value-plain v w.is_value)

key-trimmed : (t k : List ℕ) → IsKeyText t k → trimmed t ≡ k
key-trimmed t k w = ap trimmed w.is ∙ trimmed-plain-around w.before k w.after w.is_before w.is_after (key-plain k w.is_key)

pub value-trimmed : (t v : List ℕ) → IsValueText t v → trimmed t ≡ v
value-trimmed t v w = ap trimmed w.is ∙ trimmed-plain-around w.before v w.after w.is_before w.is_after (value-plain v w.is_value)

pub some-key : (a k z : List ℕ) → is_label_key k ≡ true → 0 < length (a ++ (k ++ z))
some-key a [] z h = absurd (no-key h)
some-key a (b ∷ k) z h = some-text a (k ++ z) b

pub alone-read : (t k : List ℕ) → IsKeyText t k → IsRead t k Exists []
alone-read t k w =
    let p = key-plain k w.is_key in (
      closes-only t (key-soft t k w),
      ap unblanked_requirement (key-trimmed t k w ∙ sym (trimmed-plain k p)) ∙ exists-read k w.is_key,
      subst (λ x. 0 < length x) (sym w.is) (some-key w.before k w.after w.is_key),
    )

pub negated-read : (t k : List ℕ) → IsNegatedText t k → IsRead t k DoesNotExist []
negated-read t k n =
    let w = n.is_rest in
    let p = key-plain k w.is_key in
    let u = 33 ∷ (w.before ++ k) in
    let whole : t ≡ n.before ++ (u ++ w.after) = n.is ∙ ap (λ x. n.before ++ 33 ∷ x) (w.is ∙ sym (append_assoc w.before k w.after)) in
    let e : begins (reverse u) ≡ true = by k w.before w.is_key in (
      ap (closes false) n.is ∙ closes-soft n.before (33 ∷ n.rest) (soft-blanks n.before n.is_before) ∙ closes-only n.rest (key-soft n.rest k w),
      ap requirement whole
          ∙ ap unblanked_requirement (trimmed-around n.before u w.after n.is_before w.is_after refl e)
          ∙ ap (λ x. requiring (label_key x) DoesNotExist (Some [])) (trimmed-plain-after w.before k w.is_before p)
          ∙ ap (λ x. requiring x DoesNotExist (Some [])) (own-key k w.is_key),
      subst (λ x. 0 < length x) (sym n.is) (some-text n.before n.rest 33),
    )
  where
    by : (k a : List ℕ) → is_label_key k ≡ true → begins (reverse (33 ∷ (a ++ k))) ≡ true
    by [] a h = absurd (no-key h)
    by (b ∷ k) a h = ends-plain (33 ∷ a) b k (key-plain (b ∷ k) h)

-- ---- `k=v`, `k==v` and `k!=v`

no-last-mark : (t : List ℕ) → list_all is_soft t ≡ true → before_last 33 t ≡ None
no-last-mark t h = by (nat_lt 0 (length t) && (slice_index t (length t - 1) == 33)) refl
  where
    some : (n : ℕ) → nat_lt 0 n ≡ true → 0 < n
    some n h = grind (arith, nat_tests)

    by : (v : Bool) → (nat_lt 0 (length t) && (slice_index t (length t - 1) == 33)) ≡ v → before_last 33 t ≡ None
    by true e =
        let l = some (length t) (left_true (nat_lt 0 (length t)) (slice_index t (length t - 1) == 33) e) in
        let p = all-at is_soft t (length t - 1) (omega (arith, l)) h in
        absurd (true≢false (sym (right_true (nat_lt 0 (length t)) (slice_index t (length t - 1) == 33) e) ∙ soft-no-mark (get_or t (length t - 1) 0) p))
    by false e = rw e refl

no-equals : (t : List ℕ) → list_all is_soft t ≡ true → without_equals t ≡ t
no-equals [] h = refl
no-equals (b ∷ t) h = rw (soft-no-equals b (left_true (is_soft b) (list_all is_soft t) h)) refl

-- what stands left and right
record Sides (k v l x : List ℕ) : Type 0 where
  is_key : is_label_key k ≡ true
  is_value : is_label_value v ≡ true
  is_left : list_all is_soft l ≡ true
  is_right : list_all is_soft x ≡ true
  says_key : trimmed l ≡ k
  says_value : trimmed x ≡ v

no-opening : (l u : List ℕ) → list_all is_soft l ≡ true → list_any is_opening u ≡ false → list_any is_opening (l ++ u) ≡ false
no-opening l u h g = list_any-append is_opening l u ∙ ap₂ (λ x y. x || y) (all-none is_soft is_opening soft-no-opening l h) g

module _ (k v l x : List ℕ) (s : Sides k v l x) where
  one-value : (o : Operator) → requiring (label_key (trimmed l)) o (each_read label_value (trimmed x ∷ [])) ≡ Some (record { key = k; operator = o; values = v ∷ [] })
  one-value o =
      ap₂ (λ a b. requiring (label_key a) o (each_read label_value (b ∷ []))) s.says_key s.says_value
      ∙ ap₂ (λ a b. requiring a o (put_first b (Some []))) (own-key k s.is_key) (own-value v s.is_value)

  right-opening : list_any is_opening x ≡ false
  right-opening = all-none is_soft is_opening soft-no-opening x s.is_right

  left-equals : list_any is_equals l ≡ false
  left-equals = all-none is_soft is_equals soft-no-equals l s.is_left

  equal-read : plain_requirement (l ++ 61 ∷ x) ≡ Some (record { key = k; operator = In; values = v ∷ [] })
  equal-read =
      let c = cut-at is_equals l 61 x left-equals refl in
      compares (l ++ 61 ∷ x) l x (no-opening l (61 ∷ x) s.is_left right-opening) c.0 c.1 c.2
      ∙ ap (λ f. compared_requirement (texts.compared f l x)) (no-last-mark l s.is_left)
      ∙ ap (λ y. requiring (label_key (trimmed l)) In (each_read label_value (trimmed y ∷ []))) (no-equals x s.is_right)
      ∙ one-value In

  twice-read : plain_requirement (l ++ 61 ∷ 61 ∷ x) ≡ Some (record { key = k; operator = In; values = v ∷ [] })
  twice-read =
      let c = cut-at is_equals l 61 (61 ∷ x) left-equals refl in
      compares (l ++ 61 ∷ 61 ∷ x) l (61 ∷ x) (no-opening l (61 ∷ 61 ∷ x) s.is_left right-opening) c.0 c.1 c.2
      ∙ ap (λ f. compared_requirement (texts.compared f l (61 ∷ x))) (no-last-mark l s.is_left)
      ∙ one-value In

  unequal-read : plain_requirement ((l ++ 33 ∷ []) ++ 61 ∷ x) ≡ Some (record { key = k; operator = NotIn; values = v ∷ [] })
  unequal-read =
      let n : list_any is_equals (l ++ 33 ∷ []) ≡ false = list_any-append is_equals l (33 ∷ []) ∙ ap (λ b. b || false) left-equals in
      let c = cut-at is_equals (l ++ 33 ∷ []) 61 x n refl in
      let o : list_any is_opening ((l ++ 33 ∷ []) ++ 61 ∷ x) ≡ false = ap (list_any is_opening) (append_assoc l (33 ∷ []) (61 ∷ x)) ∙ no-opening l (33 ∷ 61 ∷ x) s.is_left right-opening in
      compares ((l ++ 33 ∷ []) ++ 61 ∷ x) (l ++ 33 ∷ []) x o c.0 c.1 c.2
      ∙ ap (λ f. compared_requirement (texts.compared f (l ++ 33 ∷ []) x)) (last-here l 33)
      ∙ one-value NotIn

pub begins-key : (k z s x : List ℕ) → is_label_key k ≡ true → begins (((k ++ z) ++ s) ++ x) ≡ true
begins-key [] z s x h = absurd (no-key h)
begins-key (b ∷ k) z s x h = begins-plain (b ∷ k) (key-plain (b ∷ k) h)

pub plain-key : (k z s x : List ℕ) → is_label_key k ≡ true → unblanked_requirement (((k ++ z) ++ s) ++ x) ≡ plain_requirement (((k ++ z) ++ s) ++ x)
plain-key [] z s x h = absurd (no-key h)
plain-key (b ∷ k) z s x h = not-marked b (((k ++ z) ++ s) ++ x) (left_true (is_plain b) (list_all is_plain k) (key-plain (b ∷ k) h))

module _ (t k : List ℕ) (o : Operator) (v : List ℕ) (w : IsComparedText t k o v) where
  abbrev left : List ℕ
  left = k ++ w.is_left.after

  abbrev right : List ℕ
  right = shortened w.right

  sides : Sides k v left right
  sides =
      record {
        is_key = w.is_left.is_key;
        is_value = w.is_right.is_value;
        is_left = all-append is_soft k w.is_left.after (soft-plain k (key-plain k w.is_left.is_key)) (soft-blanks w.is_left.after w.is_left.is_after);
        is_right = all-shortened is_soft w.right (value-soft w.right v w.is_right);
        says_key = trimmed-plain-before k w.is_left.after w.is_left.is_after (key-plain k w.is_left.is_key);
        says_value = ap (λ y. trimmed (shortened y)) w.is_right.is ∙ trimmed-shortened w.is_right.before v w.is_right.after w.is_right.is_before w.is_right.is_after (value-plain v w.is_right.is_value);
      }

  whole : t ≡ w.is_left.before ++ ((left ++ w.sign) ++ w.right)
  whole =
      w.is ∙ ap (λ l. l ++ (w.sign ++ w.right)) w.is_left.is ∙ append_assoc w.is_left.before left (w.sign ++ w.right)
      ∙ ap (λ y. w.is_left.before ++ y) (sym (append_assoc left w.sign w.right))

  -- by its sign, once the blanks around it are gone
  by-sign : (sign : List ℕ) → w.sign ≡ sign → begins (reverse (left ++ sign)) ≡ true → requirement t ≡ plain_requirement ((left ++ sign) ++ right)
  by-sign sign is e =
      ap requirement whole
      ∙ ap unblanked_requirement
      (trimmed-over w.is_left.before (left ++ w.sign) w.right w.is_left.is_before (begins-key k w.is_left.after w.sign w.right w.is_left.is_key) (subst (λ x. begins (reverse (left ++ x)) ≡ true) (sym is) e))
      ∙ plain-key k w.is_left.after w.sign right w.is_left.is_key
      ∙ ap (λ x. plain_requirement ((left ++ x) ++ right)) is

  closes-sign : (sign : List ℕ) → w.sign ≡ sign → ((u : List ℕ) → closes false (sign ++ u) ≡ closes false u) → closes false t ≡ true
  closes-sign sign is f =
      ap (closes false) (w.is ∙ ap (λ x. w.left ++ (x ++ w.right)) is) ∙ closes-soft w.left (sign ++ w.right) (key-soft w.left k w.is_left) ∙ f w.right
      ∙ closes-only w.right (value-soft w.right v w.is_right)

  some-sign : (b : ℕ) (sign : List ℕ) → w.sign ≡ b ∷ sign → 0 < length t
  some-sign b sign is = subst (λ x. 0 < length x) (sym (w.is ∙ ap (λ x. w.left ++ (x ++ w.right)) is)) (some-text w.left (sign ++ w.right) b)

included-read : (t k v : List ℕ) (w : IsComparedText t k In v) → (w.sign ≡ codes "=") ⊎ (w.sign ≡ codes "==") → IsRead t k In (v ∷ [])
included-read t k v w (inl is) =
    let l = left t k In v w in
    let x = right t k In v w in (
      closes-sign t k In v w (61 ∷ []) is (λ u. refl),
      by-sign t k In v w (61 ∷ []) is (ends-with l 61 refl) ∙ ap plain_requirement (append_assoc l (61 ∷ []) x) ∙ equal-read k v l x (sides t k In v w),
      some-sign t k In v w 61 [] is,
    )
included-read t k v w (inr is) =
    let l = left t k In v w in
    let x = right t k In v w in
    let e : begins (reverse (l ++ 61 ∷ 61 ∷ [])) ≡ true = ap (λ y. begins (reverse y)) (sym (append_assoc l (61 ∷ []) (61 ∷ []))) ∙ ends-with (l ++ 61 ∷ []) 61 refl in (
      closes-sign t k In v w (61 ∷ 61 ∷ []) is (λ u. refl),
      by-sign t k In v w (61 ∷ 61 ∷ []) is e ∙ ap plain_requirement (append_assoc l (61 ∷ 61 ∷ []) x) ∙ twice-read k v l x (sides t k In v w),
      some-sign t k In v w 61 (61 ∷ []) is,
    )

excluded-read : (t k v : List ℕ) (w : IsComparedText t k NotIn v) → IsRead t k NotIn (v ∷ [])
excluded-read t k v w =
    let l = left t k NotIn v w in
    let x = right t k NotIn v w in
    let e : begins (reverse (l ++ 33 ∷ 61 ∷ [])) ≡ true = ap (λ y. begins (reverse y)) (sym (append_assoc l (33 ∷ []) (61 ∷ []))) ∙ ends-with (l ++ 33 ∷ []) 61 refl in (
      closes-sign t k NotIn v w (33 ∷ 61 ∷ []) w.is_sign (λ u. refl),
      by-sign t k NotIn v w (33 ∷ 61 ∷ []) w.is_sign e ∙ ap plain_requirement (append_assoc l (33 ∷ 61 ∷ []) x ∙ sym (append_assoc l (33 ∷ []) (61 ∷ x))) ∙ unequal-read k v l x (sides t k NotIn v w),
      some-sign t k NotIn v w 33 (61 ∷ []) w.is_sign,
    )

pub compared-read : (t k : List ℕ) (o : Operator) (v : List ℕ) → IsComparedText t k o v → IsRead t k o (v ∷ [])
compared-read t k In v w = included-read t k v w w.is_sign
compared-read t k NotIn v w = excluded-read t k v w
compared-read t k Exists v w = absurd w.is_sign
compared-read t k DoesNotExist v w = absurd w.is_sign
