-- Texts of selectors are read as they are written.
use Rattle.std.proofs.Common.{◌≡◌, ℕ, ◌<◌, List, [], ◌∷◌, ◌++◌, Bool, true, false, true≢false, ◌==◌, Some, length, reverse, option_and_then, refl, sym, subst, ap, ap₂, ◌∙◌, arith, append_assoc, append-nil}
use Rattle.std.proofs.lemmas.Bool.Decides.{nat_tests}
use Rattle.std.specs.List.{list_all, list_any, before_first, after_first, slice_split}
use Rattle.spec_api.proofs.Truths.{left_true, right_true}
use Rattle.spec_api.specs.declared.selectors.Operator.{Operator}
use Rattle.spec_api.specs.declared.selectors.Operator.TheVariants.{In, NotIn, Exists, DoesNotExist}
use Rattle.spec_laws.specs.GrammarLaws.{WrittenTextsAreRead, TextsAreClear}
use Rattle.spec_laws.specs.SelectorGrammar.{AreBlanks, IsValueText, AreValuesText, IsWord, IsListedText, IsRequirementText, alone, negated, compared, listed, IsSelectorText}
use Rattle.spec_api.specs.Selectors.{Requirement, label_key, label_value, each_read, put_first, requiring}
use Rattle.spec_api.specs.SelectorTexts.{is_blank, is_comma, is_opening, trimmed, parts, before_last, set_operator, value_in, listed_values, plain_requirement, unblanked_requirement, requirement, selector_of_text}
use Rattle.spec_laws.proofs.SelectorBlanks.{is_soft, soft-no-comma, soft-no-opening, all-append, all-weaker, all-none, soft-plain, soft-blanks, trimmed-around, trimmed-plain-around, all-blank}
use Rattle.spec_laws.proofs.SelectorCompared.{IsRead, closes-soft, closes-only, closes-inner, is_inner, inner-soft, some-text, value-soft, value-trimmed, some-key, alone-read, negated-read, compared-read, begins-key, plain-key}
use Rattle.spec_laws.proofs.SelectorForms.{own-key, own-value}
use Rattle.spec_laws.proofs.SelectorPlain.{is_plain, none, plain-no-blank, cut-at, key-plain, begins, ends-with, split-here, split-nowhere}
use Rattle.spec_laws.proofs.SelectorTextsRead.{closes, one-part, more-parts, last-here, lists, said}

-- ---- `k in (v,w)` and `k notin (v,w)`

abbrev AreRead : List ℕ → List (List ℕ) → Type 0
AreRead t vs = (list_all is_inner t ≡ true) × (each_read value_in (slice_split is_comma t) ≡ Some vs)

value-read : (t v : List ℕ) → IsValueText t v → value_in t ≡ Some v
value-read t v w = ap label_value (value-trimmed t v w) ∙ own-value v w.is_value

value-inner : (t v : List ℕ) → IsValueText t v → list_all is_inner t ≡ true
value-inner t v w = all-weaker is_soft is_inner inner-soft t (value-soft t v w)

no-comma : (t v : List ℕ) → IsValueText t v → list_any is_comma t ≡ false
no-comma t v w = all-none is_soft is_comma soft-no-comma t (value-soft t v w)

values-read : (vs : List (List ℕ)) (t : List ℕ) → AreValuesText t vs → AreRead t vs
values-read [] t a = absurd a
values-read (v ∷ []) t w = (value-inner t v w, ap (each_read value_in) (split-nowhere is_comma t (no-comma t v w)) ∙ ap (λ x. put_first x (Some [])) (value-read t v w))
values-read (v ∷ u ∷ vs) t a =
    let rest = values-read (u ∷ vs) a.1 a.4 in (
      ap (list_all is_inner) a.2 ∙ all-append is_inner a.0 (44 ∷ a.1) (value-inner a.0 v a.3) rest.0,
      ap (λ x. each_read value_in (slice_split is_comma x)) a.2
          ∙ ap (each_read value_in) (split-here is_comma a.0 44 a.1 (no-comma a.0 v a.3) refl)
          ∙ ap₂ put_first (value-read a.0 v a.3) rest.1,
    )

word-is : (o : Operator) (w : List ℕ) → IsWord o w → (set_operator w ≡ Some o) × (list_all is_plain w ≡ true)
word-is In w h = (ap set_operator h, ap (list_all is_plain) h)
word-is NotIn w h = (ap set_operator h, ap (list_all is_plain) h)
word-is Exists w h = absurd h
word-is DoesNotExist w h = absurd h

no-length : (t : List ℕ) → (length t == 0) ≡ true → t ≡ []
no-length [] h = refl
no-length (b ∷ t) h = absurd (by (length (b ∷ t)) (omega arith) h)
  where
    by : (n : ℕ) → 0 < n → (n == 0) ≡ true → ⊥
    by n l h = grind (arith, nat_tests)

something : (t : List ℕ) → list_all is_blank t ≡ false → (length (trimmed t) == 0) ≡ false
something t h = by (length (trimmed t) == 0) refl
  where
    by : (b : Bool) → (length (trimmed t) == 0) ≡ b → b ≡ false
    by true e = absurd (true≢false (sym (all-blank t (no-length (trimmed t) e)) ∙ h))
    by false e = refl

listed-if : (t : List ℕ) → (length (trimmed t) == 0) ≡ false → listed_values t ≡ each_read value_in (slice_split is_comma t)
listed-if t l = rw l refl

module _ (t k : List ℕ) (o : Operator) (vs : List (List ℕ)) (w : IsListedText t k o vs) where
  abbrev gap : List ℕ
  gap = w.apart ++ (w.word ++ w.between)

  abbrev head : List ℕ
  head = k ++ gap

  abbrev list : List ℕ
  list = w.values ++ 41 ∷ []

  abbrev tail : List ℕ
  tail = 40 ∷ (w.values ++ 41 ∷ w.after)

  gap-soft : list_all is_soft gap ≡ true
  gap-soft =
      all-append is_soft w.apart (w.word ++ w.between) (soft-blanks w.apart w.is_apart)
      (all-append is_soft w.word w.between (soft-plain w.word (word-is o w.word w.is_word).1) (soft-blanks w.between w.is_between))

  head-soft : list_all is_soft head ≡ true
  head-soft = all-append is_soft k gap (soft-plain k (key-plain k w.is_key)) gap-soft

  grouped : t ≡ w.before ++ (head ++ tail)
  grouped =
      w.is
      ∙ ap (λ x. w.before ++ (k ++ (w.apart ++ x))) (sym (append_assoc w.word w.between tail))
      ∙ ap (λ x. w.before ++ (k ++ x)) (sym (append_assoc w.apart (w.word ++ w.between) tail))
      ∙ ap (λ x. w.before ++ x) (sym (append_assoc k gap tail))

  regrouped : t ≡ w.before ++ ((head ++ 40 ∷ list) ++ w.after)
  regrouped =
      grouped ∙ ap (λ x. w.before ++ (head ++ 40 ∷ x)) (sym (append_assoc w.values (41 ∷ []) w.after))
      ∙ ap (λ x. w.before ++ x) (sym (append_assoc head (40 ∷ list) w.after))

  ends : begins (reverse (head ++ 40 ∷ list)) ≡ true
  ends = ap (λ x. begins (reverse x)) (sym (append_assoc head (40 ∷ w.values) (41 ∷ []))) ∙ ends-with (head ++ 40 ∷ w.values) 41 refl

  values-are : AreRead w.values vs
  values-are = values-read vs w.values w.are_values

  cut-head : (g : List ℕ) → AreBlanks g → 0 < length g → (before_first is_blank (k ++ (g ++ (w.word ++ w.between))) ≡ k) × (trimmed (after_first is_blank (k ++ (g ++ (w.word ++ w.between)))) ≡ w.word)
  cut-head [] h l = absurd (omega (arith, l))
  cut-head (b ∷ g) h l =
      let c = cut-at is_blank k b (g ++ (w.word ++ w.between)) (none is_blank plain-no-blank k (key-plain k w.is_key)) (left_true (is_blank b) (list_all is_blank g) h) in
      (c.1, ap trimmed c.2 ∙ trimmed-plain-around g w.word w.between (right_true (is_blank b) (list_all is_blank g) h) w.is_between (word-is o w.word w.is_word).1)

  listed-reads : requirement t ≡ Some (record { key = k; operator = o; values = vs })
  listed-reads =
      let c = cut-at is_opening head 40 list (all-none is_soft is_opening soft-no-opening head head-soft) refl in
      let d = cut-head w.apart w.is_apart w.is_some_apart in
      let found = option_and_then listed_values (before_last 41 list) in
      ap requirement regrouped
      ∙ ap unblanked_requirement (trimmed-around w.before (head ++ 40 ∷ list) w.after w.is_before w.is_after (begins-key k gap (40 ∷ list) w.after w.is_key) ends)
      ∙ ap unblanked_requirement (sym (append-nil (head ++ 40 ∷ list))) ∙ plain-key k gap (40 ∷ list) [] w.is_key ∙ ap plain_requirement (append-nil (head ++ 40 ∷ list))
      ∙ lists (head ++ 40 ∷ list) head list c.0 c.1 c.2
      ∙ ap₂ (λ x y. option_and_then (λ (p : Operator). requiring (label_key x) p found) (set_operator y)) d.0 d.1
      ∙ ap₂ (λ x y. option_and_then (λ (p : Operator). requiring x p found) y) (own-key k w.is_key) (word-is o w.word w.is_word).0
      ∙ ap (λ x. requiring (Some k) o (option_and_then listed_values x)) (last-here w.values 41)
      ∙ ap (λ x. requiring (Some k) o x) (listed-if w.values (something w.values w.is_something) ∙ values-are.1)

  listed-read : IsRead t k o vs
  listed-read = (
    ap (closes false) grouped ∙ closes-soft w.before (head ++ tail) (soft-blanks w.before w.is_before) ∙ closes-soft head tail head-soft
        ∙ closes-inner w.values (41 ∷ w.after) values-are.0 ∙ closes-only w.after (soft-blanks w.after w.is_after),
    listed-reads,
    subst (λ x. 0 < length x) (sym w.is) (some-key w.before k _ w.is_key),
  )

-- ---- the whole text

with-parts : (t : List ℕ) (r : Requirement) (o : Operator) (vs : List (List ℕ)) → r.operator ≡ o → r.values ≡ vs → IsRead t r.key o vs → IsRead t r.key r.operator r.values
with-parts t r o vs is are h = subst (λ x. IsRead t r.key x r.values) (sym is) (subst (λ x. IsRead t r.key o x) (sym are) h)

one-read : (t : List ℕ) (r : Requirement) → IsRequirementText t r → IsRead t r.key r.operator r.values
one-read t r (alone is are w) = with-parts t r Exists [] is are (alone-read t r.key w)
one-read t r (negated is are w) = with-parts t r DoesNotExist [] is are (negated-read t r.key w)
one-read t r (compared v are w) = with-parts t r r.operator (v ∷ []) refl are (compared-read t r.key r.operator v w)
one-read t r (listed w) = listed-read t r.key r.operator r.values w

parts-read : (r : Requirement) (rs : List Requirement) (t : List ℕ) → IsSelectorText t (r ∷ rs) → each_read requirement (parts t) ≡ Some (r ∷ rs)
parts-read r [] t w =
    let h = one-read t r w in
    ap (each_read requirement) (one-part t h.0) ∙ ap (λ x. put_first x (Some [])) h.1
parts-read r (s ∷ rs) t w =
    let h = one-read w.0 r w.3 in
    ap (λ x. each_read requirement (parts x)) w.2 ∙ ap (each_read requirement) (more-parts w.0 w.1 h.0) ∙ ap₂ put_first h.1 (parts-read s rs w.1 w.4)

some-read : (r : Requirement) (rs : List Requirement) (t : List ℕ) → IsSelectorText t (r ∷ rs) → 0 < length t
some-read r [] t w = (one-read t r w).2
some-read r (s ∷ rs) t w = subst (λ x. 0 < length x) (sym w.2) (some-text w.0 w.1 44)

pub written : WrittenTextsAreRead
written t [] h = ap selector_of_text h
written t (r ∷ rs) h = said t (some-read r rs t h) ∙ parts-read r rs t h

one-list : (rs ss : List Requirement) → Some rs ≡ Some ss → rs ≡ ss
one-list rs ss h = cc

pub clear : TextsAreClear
clear t rs ss h g = one-list rs ss (sym (written t rs h) ∙ written t ss g)
