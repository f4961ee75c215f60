-- Lines of bytes that follow one another.
use Rattle.std.proofs.Common.{◌≡◌, ◌-◌, ℕ, List, [], ◌∷◌, ◌++◌, length, take, get_or, Bool, true, false, cond, ◌==◌, refl, sym, ap, ◌∙◌, append_assoc, arith, length-append, if◌then◌else◌}
use Rattle.std.proofs.lemmas.Bool.{ne_eqb, eqb-true, eqb-false}
use Rattle.std.proofs.lemmas.List.{take_at}
use Rattle.std.proofs.Math.Seq.{get_or-append_seam}
use Rattle.std.specs.List.{AllByRecursion, onto_first}
use Rattle.spec_client_go.specs.ReadFrames.{cut_at_newlines, lines, rest}
use Rattle.framing.specs.Lines.{IsPartial, Splits, text_of}

-- the whole lines and what follows them, byte after byte
abbrev onto_line : ℕ → List (List ℕ) → List (List ℕ)
onto_line x [] = []
onto_line x (l ∷ ls) = (x ∷ l) ∷ ls

abbrev onto_last : ℕ → List (List ℕ) → List ℕ → List ℕ
onto_last x [] left = x ∷ left
onto_last x (l ∷ ls) left = left

abbrev by_line : List ℕ → List (List ℕ)
by_line [] = []
by_line (x ∷ xs) = if x == 10 then [] ∷ by_line xs else onto_line x (by_line xs)

abbrev last_part : List ℕ → List ℕ
last_part [] = []
last_part (x ∷ xs) = if x == 10 then last_part xs else onto_last x (by_line xs) (last_part xs)

-- a byte that is no newline, in front of bytes of which these are the lines and the rest
lines_at : (b : Bool) (x : ℕ) (a c : List ℕ) (ls : List (List ℕ)) (r : List ℕ) → (x == 10) ≡ b → by_line (a ++ c) ≡ ls ++ by_line (r ++ c)
    → cond b ([] ∷ by_line (a ++ c)) (onto_line x (by_line (a ++ c))) ≡ cond b ([] ∷ ls) (onto_line x ls) ++ by_line (cond b r (onto_last x ls r) ++ c)
lines_at true x a c ls r e h = ap (λ m. [] ∷ m) h
lines_at false x a c [] r e h = rw (e, h) refl
lines_at false x a c (l ∷ ls) r e h = rw h refl

at-lines-append : (a c : List ℕ) → by_line (a ++ c) ≡ by_line a ++ by_line (last_part a ++ c)
at-lines-append [] c = refl
at-lines-append (x ∷ a) c = lines_at (x == 10) x a c (by_line a) (last_part a) refl (at-lines-append a c)

rest_at : (b : Bool) (x : ℕ) (a c : List ℕ) (ls : List (List ℕ)) (r : List ℕ) → (x == 10) ≡ b → by_line (a ++ c) ≡ ls ++ by_line (r ++ c) → last_part (a ++ c) ≡ last_part (r ++ c)
    → cond b (last_part (a ++ c)) (onto_last x (by_line (a ++ c)) (last_part (a ++ c))) ≡ last_part (cond b r (onto_last x ls r) ++ c)
rest_at true x a c ls r e h k = k
rest_at false x a c [] r e h k = rw (e, h, k) refl
rest_at false x a c (l ∷ ls) r e h k = rw h k

at-rest-append : (a c : List ℕ) → last_part (a ++ c) ≡ last_part (last_part a ++ c)
at-rest-append [] c = refl
at-rest-append (x ∷ a) c = rest_at (x == 10) x a c (by_line a) (last_part a) refl (at-lines-append a c) (at-rest-append a c)

-- less than a line has no line
at-lines-partial : (r : List ℕ) → IsPartial r → by_line r ≡ []
at-lines-partial [] h = refl
at-lines-partial (x ∷ r) h = rw (ne_eqb x 10 h.0, at-lines-partial r h.1) refl

at-rest-partial : (r : List ℕ) → IsPartial r → last_part r ≡ r
at-rest-partial [] h = refl
at-rest-partial (x ∷ r) h = rw (ne_eqb x 10 h.0, at-lines-partial r h.1, at-rest-partial r h.1) refl

-- a line with its newline comes first
at-lines-line : (l more : List ℕ) → IsPartial l → by_line (l ++ 10 ∷ more) ≡ l ∷ by_line more
at-lines-line [] more h = refl
at-lines-line (x ∷ l) more h = rw (ne_eqb x 10 h.0, at-lines-line l more h.1) refl

at-rest-line : (l more : List ℕ) → IsPartial l → last_part (l ++ 10 ∷ more) ≡ last_part more
at-rest-line [] more h = refl
at-rest-line (x ∷ l) more h = rw (ne_eqb x 10 h.0, at-lines-line l more h.1, at-rest-line l more h.1) refl

-- bytes split into their lines and their rest
onto_text : (x : ℕ) (ls : List (List ℕ)) (r : List ℕ) → text_of (onto_line x ls) ++ onto_last x ls r ≡ x ∷ (text_of ls ++ r)
onto_text x [] r = refl
onto_text x (l ∷ ls) r = refl

whole_at : (b : Bool) (x : ℕ) (ls : List (List ℕ)) (r xs : List ℕ) → (x == 10) ≡ b → xs ≡ text_of ls ++ r → x ∷ xs ≡ text_of (cond b ([] ∷ ls) (onto_line x ls)) ++ cond b r (onto_last x ls r)
whole_at true x ls r xs e h = let is : x ≡ 10 = eqb-true x 10 e in rw (is, h) refl
whole_at false x ls r xs e h = ap (λ z. x ∷ z) h ∙ sym (onto_text x ls r)

whole : (xs : List ℕ) → xs ≡ text_of (by_line xs) ++ last_part xs
whole [] = refl
whole (x ∷ xs) = whole_at (x == 10) x (by_line xs) (last_part xs) xs refl (whole xs)

none_at : (b : Bool) (x : ℕ) (ls : List (List ℕ)) (r : List ℕ) → (x == 10) ≡ b → IsPartial r → AllByRecursion IsPartial ls → AllByRecursion IsPartial (cond b ([] ∷ ls) (onto_line x ls)) × IsPartial (cond b r (onto_last x ls r))
none_at true x ls r e p h = ((tt, h), p)
none_at false x [] r e p h = (tt, (eqb-false x 10 e, p))
none_at false x (l ∷ ls) r e p h = (((eqb-false x 10 e, h.0), h.1), p)

parts : (xs : List ℕ) → AllByRecursion IsPartial (by_line xs) × IsPartial (last_part xs)
parts [] = (tt, tt)
parts (x ∷ xs) = let p = parts xs in none_at (x == 10) x (by_line xs) (last_part xs) refl p.1 p.0

at-Splits-lines : (xs : List ℕ) → Splits xs (by_line xs) (last_part xs)
at-Splits-lines xs = let p = parts xs in record { whole = whole xs; each = p.0; partial = p.1 }

-- no other lines are
at-lines-text_of : (ls : List (List ℕ)) (r : List ℕ) → AllByRecursion IsPartial ls → IsPartial r → by_line (text_of ls ++ r) ≡ ls
at-lines-text_of [] r h p = at-lines-partial r p
at-lines-text_of (l ∷ ls) r h p =
    ap by_line (append_assoc (l ++ 10 ∷ []) (text_of ls) r ∙ append_assoc l (10 ∷ []) (text_of ls ++ r)) ∙ at-lines-line l (text_of ls ++ r) h.0
    ∙ ap (λ m. l ∷ m) (at-lines-text_of ls r h.1 p)

at-rest-text_of : (ls : List (List ℕ)) (r : List ℕ) → AllByRecursion IsPartial ls → IsPartial r → last_part (text_of ls ++ r) ≡ r
at-rest-text_of [] r h p = at-rest-partial r p
at-rest-text_of (l ∷ ls) r h p =
    ap last_part (append_assoc (l ++ 10 ∷ []) (text_of ls) r ∙ append_assoc l (10 ∷ []) (text_of ls ++ r)) ∙ at-rest-line l (text_of ls ++ r) h.0 ∙ at-rest-text_of ls r h.1 p

at-Splits-only : (xs : List ℕ) (ls : List (List ℕ)) (r : List ℕ) → Splits xs ls r → (ls ≡ by_line xs) × (r ≡ last_part xs)
at-Splits-only xs ls r s = (sym (ap by_line s.whole ∙ at-lines-text_of ls r s.each s.partial), sym (ap last_part s.whole ∙ at-rest-text_of ls r s.each s.partial))

-- bytes before the lines of others
abbrev pub before : List ℕ → List (List ℕ) → List (List ℕ)
before q [] = []
before q (l ∷ ls) = (q ++ l) ∷ ls

abbrev pub before_rest : List ℕ → List (List ℕ) → List ℕ → List ℕ
before_rest q [] r = q ++ r
before_rest q (l ∷ ls) r = r

at-lines_before : (q c : List ℕ) (ls : List (List ℕ)) → IsPartial q → by_line c ≡ ls → by_line (q ++ c) ≡ before q ls
at-lines_before [] c [] h e = e
at-lines_before [] c (l ∷ ls) h e = e
at-lines_before (x ∷ q) c [] h e = rw (ne_eqb x 10 h.0, at-lines_before q c [] h.1 e) refl
at-lines_before (x ∷ q) c (l ∷ ls) h e = rw (ne_eqb x 10 h.0, at-lines_before q c (l ∷ ls) h.1 e) refl

at-rest_before : (q c : List ℕ) (ls : List (List ℕ)) → IsPartial q → by_line c ≡ ls → last_part (q ++ c) ≡ before_rest q ls (last_part c)
at-rest_before [] c [] h e = refl
at-rest_before [] c (l ∷ ls) h e = refl
at-rest_before (x ∷ q) c [] h e = rw (ne_eqb x 10 h.0, at-lines_before q c [] h.1 e, at-rest_before q c [] h.1 e) refl
at-rest_before (x ∷ q) c (l ∷ ls) h e = rw (ne_eqb x 10 h.0, at-lines_before q c (l ∷ ls) h.1 e, at-rest_before q c (l ∷ ls) h.1 e) refl

-- ---- these are the parts of the bytes cut at each newline

cut_at : (b : Bool) (x : ℕ) (parts ls : List (List ℕ)) (r : List ℕ) → parts ≡ ls ++ r ∷ []
    → cond b ([] ∷ parts) (onto_first x parts) ≡ cond b ([] ∷ ls) (onto_line x ls) ++ cond b r (onto_last x ls r) ∷ []
cut_at true x parts ls r h = ap (λ z. [] ∷ z) h
cut_at false x parts [] r h = ap (onto_first x) h
cut_at false x parts (l ∷ ls) r h = ap (onto_first x) h

parts_are : (xs : List ℕ) → cut_at_newlines xs ≡ by_line xs ++ last_part xs ∷ []
parts_are [] = refl
parts_are (x ∷ xs) = cut_at (x == 10) x (cut_at_newlines xs) (by_line xs) (last_part xs) (parts_are xs)

one_more : (xs : List ℕ) → length (by_line xs ++ last_part xs ∷ []) - 1 ≡ length (by_line xs)
one_more xs = omega (arith, length-append (by_line xs) (last_part xs ∷ []))

lines_are : (xs : List ℕ) → lines xs ≡ by_line xs
lines_are xs =
    ap (λ ps. take (length ps - 1) ps) (parts_are xs) ∙ ap (λ n. take n (by_line xs ++ last_part xs ∷ [])) (one_more xs) ∙ take_at (by_line xs) (last_part xs ∷ []) (length (by_line xs)) refl

rest_is : (xs : List ℕ) → rest xs ≡ last_part xs
rest_is xs =
    ap (λ ps. get_or ps (length ps - 1) []) (parts_are xs) ∙ ap (λ n. get_or (by_line xs ++ last_part xs ∷ []) n []) (one_more xs)
    ∙ get_or-append_seam (by_line xs) (last_part xs) [] []

-- ---- so of lines and what follows them

pub lines-append : (a c : List ℕ) → lines (a ++ c) ≡ lines a ++ lines (rest a ++ c)
lines-append a c = lines_are (a ++ c) ∙ at-lines-append a c ∙ ap (λ ls. ls ++ by_line (last_part a ++ c)) (sym (lines_are a))
    ∙ ap (λ r. lines a ++ by_line (r ++ c)) (sym (rest_is a)) ∙ ap (λ ls. lines a ++ ls) (sym (lines_are (rest a ++ c)))

pub rest-append : (a c : List ℕ) → rest (a ++ c) ≡ rest (rest a ++ c)
rest-append a c = rest_is (a ++ c) ∙ at-rest-append a c ∙ ap (λ r. last_part (r ++ c)) (sym (rest_is a)) ∙ sym (rest_is (rest a ++ c))

-- less than a line has no line
pub lines-partial : (r : List ℕ) → IsPartial r → lines r ≡ []
lines-partial r h = lines_are r ∙ at-lines-partial r h

pub rest-partial : (r : List ℕ) → IsPartial r → rest r ≡ r
rest-partial r h = rest_is r ∙ at-rest-partial r h

-- a line with its newline comes first
pub lines-line : (l more : List ℕ) → IsPartial l → lines (l ++ 10 ∷ more) ≡ l ∷ lines more
lines-line l more h = lines_are (l ++ 10 ∷ more) ∙ at-lines-line l more h ∙ ap (λ ls. l ∷ ls) (sym (lines_are more))

pub rest-line : (l more : List ℕ) → IsPartial l → rest (l ++ 10 ∷ more) ≡ rest more
rest-line l more h = rest_is (l ++ 10 ∷ more) ∙ at-rest-line l more h ∙ sym (rest_is more)

pub Splits-lines : (xs : List ℕ) → Splits xs (lines xs) (rest xs)
Splits-lines xs = rw (lines_are xs, rest_is xs) (at-Splits-lines xs)

pub Splits-only : (xs : List ℕ) (ls : List (List ℕ)) (r : List ℕ) → Splits xs ls r → (ls ≡ lines xs) × (r ≡ rest xs)
Splits-only xs ls r s = let p = at-Splits-only xs ls r s in (p.0 ∙ sym (lines_are xs), p.1 ∙ sym (rest_is xs))

pub lines_before : (q c : List ℕ) → IsPartial q → lines (q ++ c) ≡ before q (lines c)
lines_before q c h = lines_are (q ++ c) ∙ at-lines_before q c (by_line c) h refl ∙ ap (before q) (sym (lines_are c))

pub rest_before : (q c : List ℕ) → IsPartial q → rest (q ++ c) ≡ before_rest q (lines c) (rest c)
rest_before q c h = rest_is (q ++ c) ∙ at-rest_before q c (by_line c) h refl ∙ ap (λ ls. before_rest q ls (last_part c)) (sym (lines_are c)) ∙ ap (before_rest q (lines c)) (sym (rest_is c))
