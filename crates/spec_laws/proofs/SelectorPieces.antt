-- Pieces of selectors' texts, by what is read of them.
use Rattle.std.proofs.Common.{◌≡◌, ℕ, ◌+◌, ◌-◌, ◌<◌, List, [], ◌∷◌, ◌++◌, Bool, true, false, ◌&&◌, ◌==◌, nat_lt, Option, None, Some, codes, length, take, slice_index, get_or, refl, sym, subst, ap, ap₂, ◌∙◌, arith, append_assoc, append-nil, take_all}
use Rattle.std.proofs.lemmas.Bool.Decides.{nat_tests}
use Rattle.std.proofs.lemmas.List.{take_more}
use Rattle.std.proofs.lemmas.List.Splits.{join_with_byte-slice_split, length-slice_split}
use Rattle.std.proofs.lemmas.List.Sums.{split_at_first, passes_at_first}
use Rattle.std.specs.List.{list_any, before_first, after_first, count_by, join_with_byte, position_or_len, slice_split}
use Rattle.spec_api.proofs.Truths.{left_true, right_true}
use Rattle.spec_api.specs.declared.selectors.Operator.{Operator}
use Rattle.spec_api.specs.Labels.{is_label_key, is_label_value}
use Rattle.spec_laws.specs.SelectorGrammar.{AreBlanks, IsValueText, AreValuesText, IsKeyText}
use Rattle.spec_api.specs.Selectors.{Requirement, label_key, label_value, each_read, only_if, put_first, requiring}
use Rattle.spec_api.specs.SelectorTexts.{is_blank, is_comma, trimmed, before_last, value_in}
use Rattle.spec_laws.proofs.SelectorBlanks.{all-append, trims}
use Rattle.spec_api.proofs.FirstPlaces.{some-place}

-- ---- what a result says of its parts

pub record Required (x : Option (List ℕ)) (o : Operator) (vs : Option (List (List ℕ))) (r : Requirement) : Type 0 where
  pub key : List ℕ
  pub values : List (List ℕ)
  pub is_key : x ≡ Some key
  pub are_values : vs ≡ Some values
  pub is : record { key = key; operator = o; values = values } ≡ r

one-requirement : (q r : Requirement) → Some q ≡ Some r → q ≡ r
one-requirement q r h = cc

pub required : (x : Option (List ℕ)) (o : Operator) (vs : Option (List (List ℕ))) (r : Requirement) → requiring x o vs ≡ Some r → Required x o vs r
required None o vs r h = cc
required (Some k) o None r h = cc
required (Some k) o (Some vs) r h = record { key = k; values = vs; is_key = refl; are_values = refl; is = one-requirement (record { key = k; operator = o; values = vs }) r h }

pub record Put {A : Type 0} (x : Option A) (xs : Option (List A)) (ys : List A) : Type 0 where
  pub head : A
  pub tail : List A
  pub is_head : x ≡ Some head
  pub is_tail : xs ≡ Some tail
  pub is : ys ≡ head ∷ tail

pub one-list : {A : Type 0} (xs ys : List A) → Some xs ≡ Some ys → ys ≡ xs
one-list xs ys h = cc

pub put : {A : Type 0} (x : Option A) (xs : Option (List A)) (ys : List A) → put_first x xs ≡ Some ys → Put x xs ys
put None xs ys h = cc
put (Some a) None ys h = cc
put (Some a) (Some as') ys h = record { head = a; tail = as'; is_head = refl; is_tail = refl; is = one-list (a ∷ as') ys h }

one-text : (s t : List ℕ) → Some s ≡ Some t → s ≡ t
one-text s t h = cc

only : (b : Bool) (s t : List ℕ) → only_if b s ≡ Some t → (b ≡ true) × (s ≡ t)
only true s t h = (refl, one-text s t h)
only false s t h = cc

pub key-is : (t k : List ℕ) → label_key t ≡ Some k → (is_label_key k ≡ true) × (t ≡ k)
key-is t k h = let o = only (is_label_key t) t k h in (ap is_label_key (sym o.1) ∙ o.0, o.1)

value-is : (t v : List ℕ) → label_value t ≡ Some v → (is_label_value v ≡ true) × (t ≡ v)
value-is t v h = let o = only (is_label_value t) t v h in (ap is_label_value (sym o.1) ∙ o.0, o.1)

-- ---- pieces of texts

pub written-key : (a t z k : List ℕ) → AreBlanks a → AreBlanks z → label_key (trimmed t) ≡ Some k → IsKeyText (a ++ (t ++ z)) k
written-key a t z k h g is =
    let s = trims t in
    let w = key-is (trimmed t) k is in
    record {
      before = a ++ s.before;
      after = s.after ++ z;
      is_before = all-append is_blank a s.before h s.is_before;
      is_after = all-append is_blank s.after z s.is_after g;
      is_key = w.0;
      is =
          ap (λ x. a ++ (x ++ z)) (s.is ∙ ap (λ x. s.before ++ (x ++ s.after)) w.1)
          ∙ ap (λ x. a ++ x) (append_assoc s.before (k ++ s.after) z ∙ ap (λ x. s.before ++ x) (append_assoc k s.after z))
          ∙ sym (append_assoc a s.before (k ++ (s.after ++ z)));
    }

pub written-value : (t z v : List ℕ) → AreBlanks z → label_value (trimmed t) ≡ Some v → IsValueText (t ++ z) v
written-value t z v g is =
    let s = trims t in
    let w = value-is (trimmed t) v is in
    record {
      before = s.before;
      after = s.after ++ z;
      is_before = s.is_before;
      is_after = all-append is_blank s.after z s.is_after g;
      is_value = w.0;
      is = ap (λ x. x ++ z) (s.is ∙ ap (λ x. s.before ++ (x ++ s.after)) w.1) ∙ append_assoc s.before (v ++ s.after) z ∙ ap (λ x. s.before ++ x) (append_assoc v s.after z);
    }

pub same-byte : (a b : ℕ) → (a == b) ≡ true → a ≡ b
same-byte a b h = grind (arith, nat_tests)

-- a text is cut at the first byte that passes a test
pub cut-back : (p : ℕ → Bool) (t : List ℕ) → list_any p t ≡ true → (x : ℕ) × (p x ≡ true) × (t ≡ before_first p t ++ x ∷ after_first p t)
cut-back p t h = let l = some-place p t h in (get_or t (position_or_len p t) 0, passes_at_first p t 0 l, split_at_first p t 0 l)

pub at-byte : (p : ℕ → Bool) (n : ℕ) → ((b : ℕ) → p b ≡ true → b ≡ n) → (t : List ℕ) → list_any p t ≡ true → t ≡ before_first p t ++ n ∷ after_first p t
at-byte p n f t h = let c = cut-back p t h in c.2 ∙ ap (λ x. before_first p t ++ x ∷ after_first p t) (f c.0 c.1)

-- and where its last byte is as given, without that
pub last-back : (b : ℕ) (t s : List ℕ) → before_last b t ≡ Some s → t ≡ s ++ b ∷ []
last-back b t s h =
    let some = nat_lt 0 (length t) in
    let here = slice_index t (length t - 1) == b in
    let o = only (some && here) (take (length t - 1) t) s h in
    let l = positive (length t) (left_true some here o.0) in
    sym (ap (λ n. take n t) (one-less (length t) l) ∙ take_all (length t) t (omega arith))
    ∙ take_more t (length t - 1) 0 (less (length t) l)
    ∙ ap₂ (λ x y. x ++ y ∷ []) o.1 (same-byte (slice_index t (length t - 1)) b (right_true some here o.0))
  where
    positive : (n : ℕ) → nat_lt 0 n ≡ true → 0 < n
    positive n h = grind (arith, nat_tests)

    one-less : (n : ℕ) → 0 < n → n - 1 + 1 ≡ n
    one-less n l = omega (arith, l)

    less : (n : ℕ) → 0 < n → n - 1 < n
    less n l = omega (arith, l)

-- ---- lists between commas

abbrev pub Joined : {A : Type 0} → (List ℕ → A → Type 0) → List ℕ → List A → Type 0
Joined P t [] = ⊥
Joined P t (a ∷ []) = P t a
Joined P t (a ∷ b ∷ as') = (one : List ℕ) × (more : List ℕ) × (t ≡ one ++ (codes "," ++ more)) × P one a × Joined P more (b ∷ as')

module _ {A : Type 0} (read : List ℕ → Option A) (P : List ℕ → A → Type 0) (each : (t : List ℕ) (a : A) → read t ≡ Some a → P t a) where
  joined-more : (p q : List ℕ) (ps : List (List ℕ)) (as' bs : List A) (a b : A) → as' ≡ a ∷ b ∷ bs → read p ≡ Some a → Joined P (join_with_byte 44 (q ∷ ps)) (b ∷ bs)
      → Joined P (join_with_byte 44 (p ∷ q ∷ ps)) as'
  joined-more p q ps as' bs a b is h later = subst (Joined P (join_with_byte 44 (p ∷ q ∷ ps))) (sym is) (p, join_with_byte 44 (q ∷ ps), refl, each p a h, later)

  pub joined : (ps : List (List ℕ)) (as' : List A) → 0 < length ps → each_read read ps ≡ Some as' → Joined P (join_with_byte 44 ps) as'
  joined [] as' l h = absurd (omega (arith, l))
  joined (p ∷ []) as' l h =
      let w = put (read p) (Some []) as' h in
      let none : w.tail ≡ [] = one-list [] w.tail w.is_tail in
      subst (Joined P p) (sym (w.is ∙ ap (λ x. w.head ∷ x) none)) (each p w.head w.is_head)
  joined (p ∷ q ∷ ps) as' l h =
      let w = put (read p) (each_read read (q ∷ ps)) as' h in
      let u = put (read q) (each_read read ps) w.tail w.is_tail in
      joined-more p q ps as' u.tail w.head u.head (w.is ∙ ap (λ x. w.head ∷ x) u.is) w.is_head
      (subst (Joined P (join_with_byte 44 (q ∷ ps))) u.is (joined (q ∷ ps) w.tail (omega arith) w.is_tail))

one-value : (t v : List ℕ) → value_in t ≡ Some v → IsValueText t v
one-value t v h = subst (λ x. IsValueText x v) (append-nil t) (written-value t [] v refl h)

as-values : (vs : List (List ℕ)) (t : List ℕ) → Joined IsValueText t vs → AreValuesText t vs
as-values [] t h = h
as-values (v ∷ []) t h = h
as-values (v ∷ w ∷ vs) t h = (h.0, h.1, h.2, h.3, as-values (w ∷ vs) h.1 h.4)

pub values-written : (t : List ℕ) (vs : List (List ℕ)) → each_read value_in (slice_split is_comma t) ≡ Some vs → AreValuesText t vs
values-written t vs h =
    let n : length (slice_split is_comma t) ≡ count_by is_comma t + 1 = length-slice_split is_comma t in
    as-values vs t (subst (λ x. Joined IsValueText x vs) (join_with_byte-slice_split 44 t) (joined value_in IsValueText one-value (slice_split is_comma t) vs (omega (arith, n)) h))
