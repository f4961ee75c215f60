-- Texts of selectors that are read were written so.
use Rattle.std.proofs.Common.{◌≡◌, ℕ, ◌+◌, ◌<◌, ◌≤◌, List, [], ◌∷◌, ◌++◌, Bool, true, false, true≢false, not, ◌&&◌, ◌||◌, ◌==◌, cond, Option, None, Some, codes, bytes_eq, length, option_and_then, inl, inr, refl, sym, subst, ap, ap₂, ◌∙◌, arith, append_assoc, append-nil}
use Rattle.std.proofs.lemmas.List.{drop_all}
use Rattle.std.proofs.lemmas.Slice.Eq.{bytes_eq-Decides}
use Rattle.std.specs.List.{list_all, list_any, before_first, after_first, join_with_byte, onto_first, position_or_len, slice_split}
use Rattle.spec_api.proofs.Truths.{and_true, left_true}
use Rattle.spec_api.specs.declared.selectors.Operator.{Operator}
use Rattle.spec_api.specs.declared.selectors.Operator.TheVariants.{In, NotIn, Exists, DoesNotExist}
use Rattle.spec_laws.specs.GrammarLaws.{ReadTextsAreWritten}
use Rattle.spec_laws.specs.SelectorGrammar.{AreBlanks, IsKeyText, IsSign, IsWord, IsRequirementText, alone, negated, compared, listed, IsSelectorText}
use Rattle.spec_api.specs.Selectors.{Requirement, label_key, label_value, each_read, only_if, requiring}
use Rattle.spec_api.specs.SelectorTexts as texts
use Rattle.spec_api.specs.SelectorTexts.{is_blank, is_comma, is_equals, is_opening, trimmed, still_inside, parts_from, parts, before_last, compared_requirement, without_equals, set_operator, value_in, listed_values, in_requirement, plain_requirement, unblanked_requirement, requirement, selector_of_text}
use Rattle.spec_laws.proofs.SelectorBlanks.{only-blanks, shortened, trims}
use Rattle.spec_laws.proofs.SelectorPieces.{required, put, one-list, key-is, written-key, written-value, same-byte, at-byte, cut-back, last-back, Joined, joined, values-written}

-- a text that is written with this requirement, blanks before and after it
abbrev Around : List ℕ → List ℕ → List ℕ → Requirement → Type 0
Around a c z r = IsRequirementText (a ++ (c ++ z)) r

-- ---- `k` and `!k`

alone-written : (a c z : List ℕ) (r : Requirement) → AreBlanks a → AreBlanks z → requiring (label_key c) Exists (Some []) ≡ Some r → Around a c z r
alone-written a c z r h g says =
    let w = required (label_key c) Exists (Some []) r says in
    let k = key-is c w.key w.is_key in
    subst (Around a c z) w.is
    (alone refl (one-list [] w.values w.are_values)
    (record { before = a; after = z; is_before = h; is_after = g; is_key = k.0; is = ap (λ x. a ++ (x ++ z)) k.1 }))

negated-written : (a t z : List ℕ) (r : Requirement) → AreBlanks a → AreBlanks z → requiring (label_key (trimmed t)) DoesNotExist (Some []) ≡ Some r → Around a (33 ∷ t) z r
negated-written a t z r h g says =
    let w = required (label_key (trimmed t)) DoesNotExist (Some []) r says in
    subst (Around a (33 ∷ t) z) w.is
    (negated refl (one-list [] w.values w.are_values)
    (record { before = a; rest = t ++ z; is_before = h; is_rest = written-key [] t z w.key refl g w.is_key; is = refl }))

-- ---- `k=v`, `k==v` and `k!=v`

compared-from : (o : Operator) (l sign x a z : List ℕ) (r : Requirement) → AreBlanks a → AreBlanks z → IsSign o sign
    → requiring (label_key (trimmed l)) o (each_read label_value (trimmed x ∷ [])) ≡ Some r → IsRequirementText ((a ++ l) ++ (sign ++ (x ++ z))) r
compared-from o l sign x a z r h g is_sign says =
    let w = required (label_key (trimmed l)) o (each_read label_value (trimmed x ∷ [])) r says in
    let v = put (label_value (trimmed x)) (Some []) w.values w.are_values in
    let none : v.tail ≡ [] = one-list [] v.tail v.is_tail in
    let left : IsKeyText (a ++ l) w.key = subst (λ y. IsKeyText (a ++ y) w.key) (append-nil l) (written-key a l [] w.key h refl w.is_key) in
    subst (IsRequirementText ((a ++ l) ++ (sign ++ (x ++ z)))) w.is
    (compared v.head (v.is ∙ ap (λ y. v.head ∷ y) none)
    (record { left = a ++ l; sign = sign; right = x ++ z; is_left = left; is_sign = is_sign; is_right = written-value x z v.head g v.is_head; is = refl }))

-- the key, the sign and the value, from the blanks on
regrouped : (a l x z : List ℕ) (sign : List ℕ) → (a ++ l) ++ (sign ++ (x ++ z)) ≡ a ++ ((l ++ (sign ++ x)) ++ z)
regrouped a l x z sign =
    append_assoc a l (sign ++ (x ++ z))
    ∙ ap (λ y. a ++ y) (ap (λ y. l ++ y) (sym (append_assoc sign x z)) ∙ sym (append_assoc l (sign ++ x) z))

compared-around : (o : Operator) (l sign x a z : List ℕ) (r : Requirement) → AreBlanks a → AreBlanks z → IsSign o sign
    → requiring (label_key (trimmed l)) o (each_read label_value (trimmed x ∷ [])) ≡ Some r → Around a (l ++ (sign ++ x)) z r
compared-around o l sign x a z r h g is says = subst (λ t. IsRequirementText t r) (regrouped a l x z sign) (compared-from o l sign x a z r h g is says)

equal-written : (l x a z : List ℕ) (r : Requirement) → AreBlanks a → AreBlanks z
    → requiring (label_key (trimmed l)) In (each_read label_value (trimmed (without_equals x) ∷ [])) ≡ Some r → Around a (l ++ 61 ∷ x) z r
equal-written l [] a z r h g says = compared-around In l (61 ∷ []) [] a z r h g (inl refl) says
equal-written l (b ∷ x) a z r h g says = by (is_equals b) refl says
  where
    by : (v : Bool) → is_equals b ≡ v → requiring (label_key (trimmed l)) In (each_read label_value (trimmed (cond v x (b ∷ x)) ∷ [])) ≡ Some r → Around a (l ++ 61 ∷ b ∷ x) z r
    by true e s = subst (λ y. Around a (l ++ 61 ∷ y ∷ x) z r) (sym (same-byte b 61 e)) (compared-around In l (61 ∷ 61 ∷ []) x a z r h g (inr refl) s)
    by false e s = compared-around In l (61 ∷ []) (b ∷ x) a z r h g (inl refl) s

comparison-written : (found : Option (List ℕ)) (l x a z : List ℕ) (r : Requirement) → AreBlanks a → AreBlanks z → before_last 33 l ≡ found
    → compared_requirement (texts.compared found l x) ≡ Some r → Around a (l ++ 61 ∷ x) z r
comparison-written None l x a z r h g is says = equal-written l x a z r h g says
comparison-written (Some k) l x a z r h g is says =
    let left : l ≡ k ++ 33 ∷ [] = last-back 33 l k is in
    subst (λ y. Around a y z r) (sym (ap (λ y. y ++ 61 ∷ x) left ∙ append_assoc k (33 ∷ []) (61 ∷ x))) (compared-around NotIn k (33 ∷ 61 ∷ []) x a z r h g refl says)

-- ---- `k in (v,w)` and `k notin (v,w)`

word-back : (w : List ℕ) (o : Operator) → set_operator w ≡ Some o → IsWord o w
word-back w o h = by (bytes_eq w (codes "in")) (bytes_eq w (codes "notin")) refl refl o h
  where
    one : (p q : Operator) → Some p ≡ Some q → p ≡ q
    one p q e = cc

    by : (b c : Bool) → bytes_eq w (codes "in") ≡ b → bytes_eq w (codes "notin") ≡ c → (o : Operator) → cond b (Some In) (only_if c NotIn) ≡ Some o → IsWord o w
    by true c e f o g = subst (λ p. IsWord p w) (one In o g) ((bytes_eq-Decides w (codes "in")).0 e)
    by false true e f o g = subst (λ p. IsWord p w) (one NotIn o g) ((bytes_eq-Decides w (codes "notin")).0 f)
    by false false e f o g = cc

place-none : (p : ℕ → Bool) (t : List ℕ) → list_any p t ≡ false → length t ≤ position_or_len p t
place-none p [] h = omega arith
place-none p (b ∷ t) h = by (p b) h (place-none p t)
  where
    by : (v : Bool) → (v || list_any p t) ≡ false → (list_any p t ≡ false → length t ≤ position_or_len p t) → length (b ∷ t) ≤ cond (not v) (1 + position_or_len p t) 0
    by true e later = absurd (true≢false e)
    by false e later = let l = later e in omega (arith, l)

after-none : (p : ℕ → Bool) (t : List ℕ) → list_any p t ≡ false → after_first p t ≡ []
after-none p t h = let l = place-none p t h in drop_all (position_or_len p t + 1) t (omega (arith, l))

record Listed (l : List ℕ) (vs : List (List ℕ)) : Type 0 where
  is_something : list_all is_blank l ≡ false
  are_values : each_read value_in (slice_split is_comma l) ≡ Some vs

listed-from : (l : List ℕ) (vs : List (List ℕ)) → listed_values l ≡ Some vs → Listed l vs
listed-from l vs h = by (length (trimmed l) == 0) refl h
  where
    blank-less : (b c : Bool) → list_all is_blank l ≡ b → (length (trimmed l) == 0) ≡ false → b ≡ false
    blank-less true c e f = absurd (true≢false (sym (ap (λ t. length (shortened t) == 0) (only-blanks l e)) ∙ f))
    blank-less false c e f = refl

    by : (b : Bool) → (length (trimmed l) == 0) ≡ b → cond b None (each_read value_in (slice_split is_comma l)) ≡ Some vs → Listed l vs
    by true e f = cc
    by false e f = record { is_something = blank-less (list_all is_blank l) true refl e; are_values = f }

between : (f : Option (List ℕ)) (vs : List (List ℕ)) → option_and_then listed_values f ≡ Some vs → (l : List ℕ) × (f ≡ Some l) × Listed l vs
between None vs h = cc
between (Some l) vs h = (l, refl, listed-from l vs h)

record Operated (key : Option (List ℕ)) (f : Option Operator) (vs : Option (List (List ℕ))) (r : Requirement) : Type 0 where
  operator : Operator
  is_operator : f ≡ Some operator
  says : requiring key operator vs ≡ Some r

operated : (key : Option (List ℕ)) (f : Option Operator) (vs : Option (List (List ℕ))) (r : Requirement) → option_and_then (λ (o : Operator). requiring key o vs) f ≡ Some r → Operated key f vs r
operated key None vs r h = cc
operated key (Some o) vs r h = record { operator = o; is_operator = refl; says = h }

-- the key, the blanks and the word, from the parenthesis on
spread : (k : List ℕ) (x : ℕ) (b w s u : List ℕ) → (k ++ x ∷ (b ++ (w ++ s))) ++ u ≡ k ++ ((x ∷ b) ++ (w ++ (s ++ u)))
spread k x b w s u =
    append_assoc k (x ∷ (b ++ (w ++ s))) u
    ∙ ap (λ y. k ++ x ∷ y) (append_assoc b (w ++ s) u ∙ ap (λ y. b ++ y) (append_assoc w s u))

module _ (a c z : List ℕ) (r : Requirement) (h : AreBlanks a) (g : AreBlanks z) where
  abbrev head : List ℕ
  head = before_first is_opening c

  abbrev list : List ℕ
  list = after_first is_opening c

  abbrev rest : List ℕ
  rest = after_first is_blank head

  abbrev found : Option (List (List ℕ))
  found = option_and_then listed_values (before_last 41 list)

  listed-at : c ≡ head ++ 40 ∷ list → (w : Operated (label_key (before_first is_blank head)) (set_operator (trimmed rest)) found r) → (b : Bool) → list_any is_blank head ≡ b → Around a c z r
  listed-at cut w false e =
      let none : None ≡ Some w.operator = sym (ap (λ x. set_operator (trimmed x)) (after-none is_blank head e)) ∙ w.is_operator in
      cc
  listed-at cut w true e =
      let q = required (label_key (before_first is_blank head)) w.operator found r w.says in
      let k = key-is (before_first is_blank head) q.key q.is_key in
      let v = between (before_last 41 list) q.values q.are_values in
      let x = cut-back is_blank head e in
      let s = trims rest in
      let front : head ≡ q.key ++ x.0 ∷ (s.before ++ (trimmed rest ++ s.after)) = x.2 ∙ ap₂ (λ y u. y ++ x.0 ∷ u) k.1 s.is in
      let back : list ++ z ≡ v.0 ++ 41 ∷ z = ap (λ y. y ++ z) (last-back 41 list v.0 v.1) ∙ append_assoc v.0 (41 ∷ []) z in
      subst (Around a c z) q.is
      (listed
      (record {
        before = a;
        apart = x.0 ∷ s.before;
        word = trimmed rest;
        between = s.after;
        values = v.0;
        after = z;
        is_before = h;
        is_key = k.0;
        is_apart = and_true (is_blank x.0) (list_all is_blank s.before) x.1 s.is_before;
        is_some_apart = omega arith;
        is_word = word-back (trimmed rest) w.operator w.is_operator;
        is_between = s.is_after;
        is_something = v.2.is_something;
        are_values = values-written v.0 q.values v.2.are_values;
        is_after = g;
        is =
            ap (λ y. a ++ (y ++ z)) cut ∙ ap (λ y. a ++ y) (append_assoc head (40 ∷ list) z)
            ∙ ap₂ (λ y u. a ++ (y ++ 40 ∷ u)) front back
            ∙ ap (λ y. a ++ y) (spread q.key x.0 s.before (trimmed rest) s.after (40 ∷ (v.0 ++ 41 ∷ z)));
      }))

  listed-written : list_any is_opening c ≡ true → in_requirement head list ≡ Some r → Around a c z r
  listed-written o says =
      listed-at (at-byte is_opening 40 (λ b e. same-byte b 40 e) c o) (operated (label_key (before_first is_blank head)) (set_operator (trimmed rest)) found r says) (list_any is_blank head) refl

  -- ---- requirements of every form

  compared-written : list_any is_equals c ≡ true → compared_requirement (texts.comparison c) ≡ Some r → Around a c z r
  compared-written e says =
      let left = before_first is_equals c in
      let right = after_first is_equals c in
      subst (λ y. Around a y z r) (sym (at-byte is_equals 61 (λ b f. same-byte b 61 f) c e)) (comparison-written (before_last 33 left) left right a z r h g refl says)

  plain-written : plain_requirement c ≡ Some r → Around a c z r
  plain-written = by (list_any is_opening c) (list_any is_equals c) refl refl
    where
      by : (o e : Bool) → list_any is_opening c ≡ o → list_any is_equals c ≡ e
          → cond o (in_requirement head list) (cond e (compared_requirement (texts.comparison c)) (requiring (label_key c) Exists (Some []))) ≡ Some r → Around a c z r
      by true e is is' says = listed-written is says
      by false true is is' says = compared-written is' says
      by false false is is' says = alone-written a c z r h g says

one-written : (a c z : List ℕ) (r : Requirement) → AreBlanks a → AreBlanks z → unblanked_requirement c ≡ Some r → Around a c z r
one-written a [] z r h g says = cc
one-written a (b ∷ c) z r h g says = by (b == 33) refl says
  where
    by : (v : Bool) → (b == 33) ≡ v → cond v (requiring (label_key (trimmed c)) DoesNotExist (Some [])) (plain_requirement (b ∷ c)) ≡ Some r → Around a (b ∷ c) z r
    by true e s = subst (λ x. Around a (x ∷ c) z r) (sym (same-byte b 33 e)) (negated-written a c z r h g s)
    by false e s = plain-written a (b ∷ c) z r h g s

requirement-written : (t : List ℕ) (r : Requirement) → requirement t ≡ Some r → IsRequirementText t r
requirement-written t r says = let s = trims t in subst (λ x. IsRequirementText x r) (sym s.is) (one-written s.before (trimmed t) s.after r s.is_before s.is_after says)

-- ---- the whole text

some-onto : (b : ℕ) (ps : List (List ℕ)) → 0 < length (onto_first b ps)
some-onto b [] = omega arith
some-onto b (p ∷ ps) = omega arith

some-parts : (inside : Bool) (t : List ℕ) → 0 < length (parts_from inside t)
some-parts inside [] = omega arith
some-parts inside (b ∷ t) = by ((b == 44) && not inside)
  where
    by : (v : Bool) → 0 < length (cond v ([] ∷ parts_from false t) (onto_first b (parts_from (still_inside inside b) t)))
    by true = omega arith
    by false = some-onto b (parts_from (still_inside inside b) t)

join-onto : (b : ℕ) (ps : List (List ℕ)) → join_with_byte 44 (onto_first b ps) ≡ b ∷ join_with_byte 44 ps
join-onto b [] = refl
join-onto b (p ∷ []) = refl
join-onto b (p ∷ q ∷ ps) = refl

join-after : (ps : List (List ℕ)) → 0 < length ps → join_with_byte 44 ([] ∷ ps) ≡ 44 ∷ join_with_byte 44 ps
join-after [] l = absurd (omega (arith, l))
join-after (p ∷ ps) l = refl

-- the parts with commas between them are the text
join-parts : (inside : Bool) (t : List ℕ) → join_with_byte 44 (parts_from inside t) ≡ t
join-parts inside [] = refl
join-parts inside (b ∷ t) = by ((b == 44) && not inside) refl (join-parts false t) (join-parts (still_inside inside b) t)
  where
    by : (v : Bool) → ((b == 44) && not inside) ≡ v → join_with_byte 44 (parts_from false t) ≡ t → join_with_byte 44 (parts_from (still_inside inside b) t) ≡ t
        → join_with_byte 44 (cond v ([] ∷ parts_from false t) (onto_first b (parts_from (still_inside inside b) t))) ≡ b ∷ t
    by true e f g = join-after (parts_from false t) (some-parts false t) ∙ ap₂ (λ x y. x ∷ y) (sym (same-byte b 44 (left_true (b == 44) (not inside) e))) f
    by false e f g = join-onto b (parts_from (still_inside inside b) t) ∙ ap (λ y. b ∷ y) g

as-selector : (rs : List Requirement) (t : List ℕ) → Joined IsRequirementText t rs → IsSelectorText t rs
as-selector [] t h = absurd h
as-selector (r ∷ []) t h = h
as-selector (r ∷ s ∷ rs) t h = (h.0, h.1, h.2, h.3, as-selector (s ∷ rs) h.1 h.4)

one-none : (rs : List Requirement) → selector_of_text [] ≡ Some rs → rs ≡ []
one-none rs h = one-list [] rs h

pub read_back : ReadTextsAreWritten
read_back [] rs h = subst (IsSelectorText []) (sym (one-none rs h)) refl
read_back (b ∷ t) rs h =
    as-selector rs (b ∷ t)
    (subst (λ x. Joined IsRequirementText x rs) (join-parts false (b ∷ t)) (joined requirement IsRequirementText requirement-written (parts (b ∷ t)) rs (some-parts false (b ∷ t)) h))
