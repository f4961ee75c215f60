-- The lines of a text are its first line and the lines of what follows.
use Rattle.std.proofs.Common.{◌≡◌, ℕ, suc, ◌-◌, ◌<◌, List, [], ◌∷◌, length, take, get_or, Bool, true, false, cond, eqb, ltb, refl, sym, ap, ◌∙◌, arith}
use Rattle.std.specs.Io.BufRead.{take_through, drop_through, strip_last}
use Rattle.std.specs.List.{onto_first}
use Rattle.line_service.specs.Replies.{lines_of}

-- the bytes before the first newline
abbrev pub cut : List ℕ → List ℕ
cut [] = []
cut (x ∷ xs) = cond (eqb x 10) [] (x ∷ cut xs)

-- at a newline a line ends, elsewhere it goes on
at_byte : (b : Bool) (x : ℕ) (c xs tail : List ℕ) (rest lines : List (List ℕ)) → onto_first x lines ≡ (x ∷ c) ∷ rest
    → cond b ([] ∷ lines_of xs) (onto_first x lines) ≡ cond b [] (x ∷ c) ∷ cond b (lines_of xs) rest
at_byte true x c xs tail rest lines h = refl
at_byte false x c xs tail rest lines h = h

-- the lines of either of two texts
lines_of-cond : (b : Bool) (xs ys : List ℕ) → lines_of (cond b xs ys) ≡ cond b (lines_of xs) (lines_of ys)
lines_of-cond true xs ys = refl
lines_of-cond false xs ys = refl

-- what is not empty begins with a line, and its other lines are those after its newline
pub lines_of-first : (x : ℕ) (xs : List ℕ) → lines_of (x ∷ xs) ≡ cut (x ∷ xs) ∷ lines_of (drop_through 10 (x ∷ xs))
lines_of-first x [] = at_byte (eqb x 10) x [] [] [] [] [] refl ∙ rw (lines_of-cond (eqb x 10) [] [])
lines_of-first x (y ∷ xs) =
    at_byte (eqb x 10) x (cut (y ∷ xs)) (y ∷ xs) [] (lines_of (drop_through 10 (y ∷ xs))) (lines_of (y ∷ xs)) (ap (onto_first x) (lines_of-first y xs))
    ∙ ap (λ r. cut (x ∷ y ∷ xs) ∷ r) (sym (lines_of-cond (eqb x 10) (y ∷ xs) (drop_through 10 (y ∷ xs))))

-- either of two texts behind a byte
cond-cons : (b : Bool) (x : ℕ) (p q : List ℕ) → cond b (x ∷ p) (x ∷ q) ≡ x ∷ cond b p q
cond-cons true x p q = refl
cond-cons false x p q = refl

-- a byte in front does not change whether a newline ends the text
strip-cons_at : (x : ℕ) (t : List ℕ) (n : ℕ) → length t ≡ suc n → strip_last 10 (x ∷ t) ≡ x ∷ strip_last 10 t
strip-cons_at x t n e =
    let a : suc (length t) - 1 ≡ suc n = omega (arith, e) in
    let b : length t - 1 ≡ n = omega (arith, e) in
    let some : ltb 0 (length t) ≡ true = grind (arith, e) in
    let some' : ltb 0 (suc (length t)) ≡ true = grind arith in
    rw (a, b, some, some') (cond-cons (eqb (get_or t n 0) 10) x (take n t) t)

strip-cons : (x y : ℕ) (t : List ℕ) → strip_last 10 (x ∷ y ∷ t) ≡ x ∷ strip_last 10 (y ∷ t)
strip-cons x y t = strip-cons_at x (y ∷ t) (length t) refl

-- one byte more of the first line
strip_at : (b : Bool) (x : ℕ) (t c : List ℕ) → eqb x 10 ≡ b → strip_last 10 t ≡ c → strip_last 10 (cond b (x ∷ []) (x ∷ t)) ≡ cond b [] (x ∷ c)
strip_at true x t c e h = rw e
strip_at false x [] c e h = rw e (ap (λ r. x ∷ r) h)
strip_at false x (y ∷ t) c e h = strip-cons x y t ∙ ap (λ r. x ∷ r) h

-- the bytes up to the newline, without it
pub strip-take_through : (xs : List ℕ) → strip_last 10 (take_through 10 xs) ≡ cut xs
strip-take_through [] = refl
strip-take_through (x ∷ xs) = strip_at (eqb x 10) x (take_through 10 xs) (cut xs) refl (strip-take_through xs)

-- what was read up to the newline is the first line
pub first_read : (rest buffer line : List ℕ) → buffer ≡ take_through 10 rest → 0 < length buffer → line ≡ strip_last 10 buffer → lines_of rest ≡ line ∷ lines_of (drop_through 10 rest)
first_read [] buffer line e h s = absurd (omega (arith, ap length e))
first_read (x ∷ xs) buffer line e h s = lines_of-first x xs ∙ ap (λ l. l ∷ lines_of (drop_through 10 (x ∷ xs))) (sym (s ∙ ap (strip_last 10) e ∙ strip-take_through (x ∷ xs)))
