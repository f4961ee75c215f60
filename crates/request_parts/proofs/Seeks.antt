-- A router whose parameters are whole segments finds the route that the segments find.
use Rattle.std.proofs.Common.{◌≡◌, ◌≢◌, ℕ, zero, suc, ◌-◌, ◌<◌, ◌≤◌, List, [], ◌∷◌, ◌++◌, length, Option, Some, None, Bool, true, false, cond, refl, sym, ap, ◌∙◌, arith, ◌==◌, ◌&&◌, length-append, append-nil}
use Rattle.std.proofs.lemmas.Bool.Decides.{nat_tests}
use Rattle.matchit.specs.Rows.{RowsOf}
use Rattle.matchit.specs.Seek.{own, step, or_else, seek, first, param_step, has_slash, segment, same_text, longest_from, longest_suffix, with_suffix, cuts}
use Rattle.request_parts.proofs.Plain.{Plain, AllPlain, IsRest, plain-cuts, slash-cuts, plain-segment, plain-slash, cut-segment, cut-slash, rest-joined}
use Rattle.request_parts.specs.Parts.{Part, word, any, part_tokens, tokens, joined, rows, after_word, after_any, ending, found}

-- each word has bytes and no slash
abbrev pub IsRoute : List Part → Type 0
IsRoute [] = Unit {0}
IsRoute (word [] ∷ ps) = ⊥
IsRoute (word (x ∷ w) ∷ ps) = Plain (x ∷ w) × IsRoute ps
IsRoute (any ∷ ps) = IsRoute ps

-- routes in the midst of a word: what is left of it, and the parts after it
abbrev pub Half : Type 0 → Type 0
Half K = List (List ℕ × (List Part × K))

module _ {K : Type 0} where
  abbrev pub AreRoutes : List (List Part × K) → Type 0
  AreRoutes [] = Unit {0}
  AreRoutes ((ps, k) ∷ t) = IsRoute ps × AreRoutes t

  abbrev pub flat : Half K → RowsOf K
  flat [] = []
  flat ((w, (ps, k)) ∷ h) = (w ++ tokens ps, k) ∷ flat h

  abbrev pub AreHalf : Half K → Type 0
  AreHalf [] = Unit {0}
  AreHalf ((w, (ps, k)) ∷ h) = Plain w × IsRoute ps × AreHalf h

  abbrev pub words : List (List Part × K) → Half K
  words [] = []
  words (([], k) ∷ t) = words t
  words ((word w ∷ ps, k) ∷ t) = (w, (ps, k)) ∷ words t
  words ((any ∷ ps, k) ∷ t) = words t

  abbrev pub half_step : ℕ → Half K → Half K
  half_step b [] = []
  half_step b (([], r) ∷ h) = half_step b h
  half_step b ((x ∷ w, r) ∷ h) = cond (x == b) ((w, r) ∷ half_step b h) (half_step b h)

  abbrev pub ended : List ℕ → Half K → List (List Part × K)
  ended s [] = []
  ended s ((w, r) ∷ h) = cond (same_text w s) (r ∷ ended s h) (ended s h)

  abbrev pub insides : List (List Part × K) → RowsOf K
  insides [] = []
  insides (([], k) ∷ t) = insides t
  insides ((p ∷ ps, k) ∷ t) = (part_tokens p ++ tokens ps, k) ∷ insides t

  ended-words : (s : List ℕ) (t : List (List Part × K)) → ended s (words t) ≡ after_word s t
  ended-words s [] = refl
  ended-words s (([], k) ∷ t) = ended-words s t
  ended-words s ((word w ∷ ps, k) ∷ t) = by (same_text w s) (ended-words s t)
    where
      by : (v : Bool) → ended s (words t) ≡ after_word s t → cond v ((ps, k) ∷ ended s (words t)) (ended s (words t)) ≡ cond v ((ps, k) ∷ after_word s t) (after_word s t)
      by true ih = ap (λ z. (ps, k) ∷ z) ih
      by false ih = ih
  ended-words s ((any ∷ ps, k) ∷ t) = ended-words s t

  ended-step : (b : ℕ) (s : List ℕ) (h : Half K) → ended s (half_step b h) ≡ ended (b ∷ s) h
  ended-step b s [] = refl
  ended-step b s (([], r) ∷ h) = ended-step b s h
  ended-step b s ((x ∷ w, r) ∷ h) = by (x == b) (ended-step b s h)
    where
      by : (v : Bool) → ended s (half_step b h) ≡ ended (b ∷ s) h → ended s (cond v ((w, r) ∷ half_step b h) (half_step b h)) ≡ cond (v && same_text w s) (r ∷ ended (b ∷ s) h) (ended (b ∷ s) h)
      by true ih = ap (λ z. cond (same_text w s) (r ∷ z) z) ih
      by false ih = ih

  -- ---- steps over whole routes

  step-slash : (t : List (List Part × K)) → step 47 (rows t) ≡ insides t
  step-slash [] = refl
  step-slash (([], k) ∷ t) = step-slash t
  step-slash ((p ∷ ps, k) ∷ t) = ap (λ z. (part_tokens p ++ tokens ps, k) ∷ z) (step-slash t)

  step-no : (b : ℕ) (t : List (List Part × K)) → 47 ≢ b → step b (rows t) ≡ []
  step-no b [] n = refl
  step-no b (([], k) ∷ t) n = step-no b t n
  step-no b ((p ∷ ps, k) ∷ t) n =
      let e : (47 == b) ≡ false = grind (arith, nat_tests) in
      rw e (step-no b t n)

  own-rows : (t : List (List Part × K)) → own (rows t) ≡ ending t
  own-rows [] = refl
  own-rows (([], k) ∷ t) = refl
  own-rows ((p ∷ ps, k) ∷ t) = own-rows t

  -- ---- steps inside a segment

  insides-byte : (b : ℕ) (t : List (List Part × K)) → b < 256 → AreRoutes t → step b (insides t) ≡ flat (half_step b (words t))
  insides-byte b [] l g = refl
  insides-byte b (([], k) ∷ t) l g = insides-byte b t l g.1
  insides-byte b ((word [] ∷ ps, k) ∷ t) l g = absurd g.0
  insides-byte b ((word (x ∷ w) ∷ ps, k) ∷ t) l g = by (x == b) (insides-byte b t l g.1)
    where
      by : (v : Bool) → step b (insides t) ≡ flat (half_step b (words t)) → cond v ((w ++ tokens ps, k) ∷ step b (insides t)) (step b (insides t)) ≡ flat (cond v ((w, (ps, k)) ∷ half_step b (words t)) (half_step b (words t)))
      by true ih = ap (λ z. (w ++ tokens ps, k) ∷ z) ih
      by false ih = ih
  insides-byte b ((any ∷ ps, k) ∷ t) l g =
      let e : (256 == b) ≡ false = grind (arith, nat_tests) in
      rw e (insides-byte b t l g.1)

  insides-slash : (t : List (List Part × K)) → AreRoutes t → step 47 (insides t) ≡ []
  insides-slash [] g = refl
  insides-slash (([], k) ∷ t) g = insides-slash t g.1
  insides-slash ((word [] ∷ ps, k) ∷ t) g = absurd g.0
  insides-slash ((word (x ∷ w) ∷ ps, k) ∷ t) g =
      let n : x ≢ 47 = g.0.0.1 in
      let e : (x == 47) ≡ false = grind (arith, nat_tests) in
      rw e (insides-slash t g.1)
  insides-slash ((any ∷ ps, k) ∷ t) g = insides-slash t g.1

  insides-any : (t : List (List Part × K)) → AreRoutes t → step 256 (insides t) ≡ rows (after_any t)
  insides-any [] g = refl
  insides-any (([], k) ∷ t) g = insides-any t g.1
  insides-any ((word [] ∷ ps, k) ∷ t) g = absurd g.0
  insides-any ((word (x ∷ w) ∷ ps, k) ∷ t) g =
      let l : x < 256 = g.0.0.0 in
      let e : (x == 256) ≡ false = grind (arith, nat_tests) in
      rw e (insides-any t g.1)
  insides-any ((any ∷ ps, k) ∷ t) g = ap (λ z. (tokens ps, k) ∷ z) (insides-any t g.1)

  insides-all : (t : List (List Part × K)) → AreRoutes t → step 257 (insides t) ≡ []
  insides-all [] g = refl
  insides-all (([], k) ∷ t) g = insides-all t g.1
  insides-all ((word [] ∷ ps, k) ∷ t) g = absurd g.0
  insides-all ((word (x ∷ w) ∷ ps, k) ∷ t) g =
      let l : x < 256 = g.0.0.0 in
      let e : (x == 257) ≡ false = grind (arith, nat_tests) in
      rw e (insides-all t g.1)
  insides-all ((any ∷ ps, k) ∷ t) g = insides-all t g.1

  insides-own : (t : List (List Part × K)) → AreRoutes t → own (insides t) ≡ None
  insides-own [] g = refl
  insides-own (([], k) ∷ t) g = insides-own t g.1
  insides-own ((word [] ∷ ps, k) ∷ t) g = absurd g.0
  insides-own ((word (x ∷ w) ∷ ps, k) ∷ t) g = insides-own t g.1
  insides-own ((any ∷ ps, k) ∷ t) g = insides-own t g.1

  -- ---- steps in the midst of a word

  flat-byte : (b : ℕ) (h : Half K) → b ≢ 47 → step b (flat h) ≡ flat (half_step b h)
  flat-byte b [] n = refl
  flat-byte b (([], ([], k)) ∷ h) n = flat-byte b h n
  flat-byte b (([], (p ∷ ps, k)) ∷ h) n =
      let e : (47 == b) ≡ false = grind (arith, nat_tests) in
      rw e (flat-byte b h n)
  flat-byte b ((x ∷ w, (ps, k)) ∷ h) n = by (x == b) (flat-byte b h n)
    where
      by : (v : Bool) → step b (flat h) ≡ flat (half_step b h) → cond v ((w ++ tokens ps, k) ∷ step b (flat h)) (step b (flat h)) ≡ flat (cond v ((w, (ps, k)) ∷ half_step b h) (half_step b h))
      by true ih = ap (λ z. (w ++ tokens ps, k) ∷ z) ih
      by false ih = ih

  flat-wide : (b : ℕ) (h : Half K) → 256 ≤ b → AreHalf h → step b (flat h) ≡ []
  flat-wide b [] l g = refl
  flat-wide b (([], ([], k)) ∷ h) l g = flat-wide b h l g.2
  flat-wide b (([], (p ∷ ps, k)) ∷ h) l g =
      let e : (47 == b) ≡ false = grind (arith, nat_tests) in
      rw e (flat-wide b h l g.2)
  flat-wide b ((x ∷ w, (ps, k)) ∷ h) l g =
      let s : x < 256 = g.0.0 in
      let e : (x == b) ≡ false = grind (arith, nat_tests) in
      rw e (flat-wide b h l g.2)

  flat-slash : (h : Half K) → AreHalf h → step 47 (flat h) ≡ insides (ended [] h)
  flat-slash [] g = refl
  flat-slash (([], ([], k)) ∷ h) g = flat-slash h g.2
  flat-slash (([], (p ∷ ps, k)) ∷ h) g = ap (λ z. (part_tokens p ++ tokens ps, k) ∷ z) (flat-slash h g.2)
  flat-slash ((x ∷ w, (ps, k)) ∷ h) g =
      let n : x ≢ 47 = g.0.1 in
      let e : (x == 47) ≡ false = grind (arith, nat_tests) in
      rw e (flat-slash h g.2)

  flat-own : (h : Half K) → own (flat h) ≡ ending (ended [] h)
  flat-own [] = refl
  flat-own (([], ([], k)) ∷ h) = refl
  flat-own (([], (p ∷ ps, k)) ∷ h) = flat-own h
  flat-own ((x ∷ w, (ps, k)) ∷ h) = flat-own h

  AreHalf-step : (b : ℕ) (h : Half K) → AreHalf h → AreHalf (half_step b h)
  AreHalf-step b [] g = tt
  AreHalf-step b (([], r) ∷ h) g = AreHalf-step b h g.2
  AreHalf-step b ((x ∷ w, r) ∷ h) g = by (x == b) (AreHalf-step b h g.2)
    where
      by : (v : Bool) → AreHalf (half_step b h) → AreHalf (cond v ((w, r) ∷ half_step b h) (half_step b h))
      by true ih = (g.0.2, g.1, ih)
      by false ih = ih

  AreHalf-words : (t : List (List Part × K)) → AreRoutes t → AreHalf (words t)
  AreHalf-words [] g = tt
  AreHalf-words (([], k) ∷ t) g = AreHalf-words t g.1
  AreHalf-words ((word [] ∷ ps, k) ∷ t) g = absurd g.0
  AreHalf-words ((word (x ∷ w) ∷ ps, k) ∷ t) g = (g.0.0, g.0.1, AreHalf-words t g.1)
  AreHalf-words ((any ∷ ps, k) ∷ t) g = AreHalf-words t g.1

  pub AreRoutes-word : (s : List ℕ) (t : List (List Part × K)) → AreRoutes t → AreRoutes (after_word s t)
  AreRoutes-word s [] g = tt
  AreRoutes-word s (([], k) ∷ t) g = AreRoutes-word s t g.1
  AreRoutes-word s ((word [] ∷ ps, k) ∷ t) g = absurd g.0
  AreRoutes-word s ((word (x ∷ w) ∷ ps, k) ∷ t) g = by (same_text (x ∷ w) s) (AreRoutes-word s t g.1)
    where
      by : (v : Bool) → AreRoutes (after_word s t) → AreRoutes (cond v ((ps, k) ∷ after_word s t) (after_word s t))
      by true ih = (g.0.1, ih)
      by false ih = ih
  AreRoutes-word s ((any ∷ ps, k) ∷ t) g = AreRoutes-word s t g.1

  pub AreRoutes-any : (t : List (List Part × K)) → AreRoutes t → AreRoutes (after_any t)
  AreRoutes-any [] g = tt
  AreRoutes-any (([], k) ∷ t) g = AreRoutes-any t g.1
  AreRoutes-any ((word [] ∷ ps, k) ∷ t) g = absurd g.0
  AreRoutes-any ((word (x ∷ w) ∷ ps, k) ∷ t) g = AreRoutes-any t g.1
  AreRoutes-any ((any ∷ ps, k) ∷ t) g = (g.0, AreRoutes-any t g.1)

  -- ---- the walk

  or_else-none : (a : Option K) → or_else a None ≡ a
  or_else-none None = refl
  or_else-none (Some k) = refl

  param_step-empty : (p : List ℕ) → (param_step {K = K} [] p).1 ≡ []
  unfolding param_step
  param_step-empty p =
      elim (has_slash p) as (λ v. (cond {A = ℕ × RowsOf K} v (0, []) (length p, [])).1 ≡ []) [
        | true ↦ refl
        | false ↦ refl
      ]

  seek-empty : (k : ℕ) (p : List ℕ) → seek {K = K} k [] p ≡ None
  unfolding seek
  seek-empty k [] = refl
  seek-empty (suc k) (b ∷ p) = seek-empty k p
  seek-empty zero (b ∷ p) = simp (seek-empty 0 p, param_step-empty (b ∷ p), seek-empty (((param_step {K = K} [] (b ∷ p)).0) - 1) p)

  seek-skip : (r : RowsOf K) (s rest : List ℕ) → seek (length s) r (s ++ rest) ≡ seek 0 r rest
  unfolding seek
  seek-skip r [] rest = refl
  seek-skip r (b ∷ s) rest = seek-skip r s rest

  -- one byte, where no parameter begins
  seek-byte : (r : RowsOf K) (b : ℕ) (p : List ℕ) → step 256 r ≡ [] → step 257 r ≡ [] → seek 0 r (b ∷ p) ≡ seek 0 (step b r) p
  unfolding seek
  seek-byte r b p e f =
      simp (e, f, param_step-empty (b ∷ p), seek-empty ((param_step {K = K} [] (b ∷ p)).0 - 1) p, or_else-none)

  -- one byte at the start of a segment
  seek-start : (r : RowsOf K) (b : ℕ) (p : List ℕ) → step 257 r ≡ []
      → seek 0 r (b ∷ p) ≡ or_else (seek 0 (step b r) p) (seek ((param_step (step 256 r) (b ∷ p)).0 - 1) (param_step (step 256 r) (b ∷ p)).1 p)
  unfolding seek
  seek-start r b p f = simp (f, or_else-none)

  seek-rows : (t : List (List Part × K)) (r : List ℕ) → seek 0 (rows t) (47 ∷ r) ≡ seek 0 (insides t) r
  seek-rows t r =
      seek-byte (rows t) 47 r (step-no 256 t (λ e. omega arith)) (step-no 257 t (λ e. omega arith)) ∙ ap (λ z. seek 0 z r) (step-slash t)

  seek-end : (r : RowsOf K) → seek 0 r [] ≡ own r
  unfolding seek
  seek-end r = refl

  seek-word : (s : List ℕ) (h : Half K) (rest : List ℕ) → Plain s → AreHalf h → IsRest rest → seek 0 (flat h) (s ++ rest) ≡ seek 0 (rows (ended s h)) rest
  seek-word [] h [] p g i = seek-end (flat h) ∙ flat-own h ∙ sym (own-rows (ended [] h)) ∙ sym (seek-end (rows (ended [] h)))
  seek-word [] h (x ∷ r) p g i =
      let a : seek 0 (flat h) (47 ∷ r) ≡ seek 0 (insides (ended [] h)) r =
      seek-byte (flat h) 47 r (flat-wide 256 h (omega arith) g) (flat-wide 257 h (omega arith) g) ∙ ap (λ z. seek 0 z r) (flat-slash h g) in
      rw i (a ∙ sym (seek-rows (ended [] h) r))
  seek-word (b ∷ s) h rest p g i =
      seek-byte (flat h) b (s ++ rest) (flat-wide 256 h (omega arith) g) (flat-wide 257 h (omega arith) g)
      ∙ ap (λ z. seek 0 z (s ++ rest)) (flat-byte b h p.1)
      ∙ seek-word s (half_step b h) rest p.2 (AreHalf-step b h g) i
      ∙ ap (λ z. seek 0 (rows z) rest) (ended-step b s h)

  seek-past : (k : ℕ) (r : RowsOf K) (s rest : List ℕ) → k ≡ length s → seek k r (s ++ rest) ≡ seek 0 r rest
  seek-past k r s rest e = ap (λ z. seek z r (s ++ rest)) e ∙ seek-skip r s rest

  -- ---- what a parameter takes

  -- no suffix is cut where a slash does not end the segment, or is all of it
  longest-none : (seg : List ℕ) (t : List (List Part × K)) → cuts seg (47 ∷ []) ≡ false → longest_from seg [] (rows t) ≡ []
  longest-none seg [] e = refl
  longest-none seg (([], k) ∷ t) e = longest-none seg t e
  longest-none seg ((p ∷ ps, k) ∷ t) e = ap (λ v. longest_from seg (cond v (47 ∷ []) []) (rows t)) e ∙ longest-none seg t e

  longest-slash : (seg : List ℕ) (t : List (List Part × K)) → longest_from seg (47 ∷ []) (rows t) ≡ 47 ∷ []
  longest-slash seg [] = refl
  longest-slash seg (([], k) ∷ t) = longest-slash seg t
  longest-slash seg ((p ∷ ps, k) ∷ t) = longest-slash seg t

  -- the routes that go on
  abbrev pub going : List (List Part × K) → List (List Part × K)
  going [] = []
  going (([], k) ∷ t) = going t
  going ((p ∷ ps, k) ∷ t) = (p ∷ ps, k) ∷ going t

  abbrev pub goes : List (List Part × K) → Bool
  goes [] = false
  goes (([], k) ∷ t) = goes t
  goes ((p ∷ ps, k) ∷ t) = true

  longest-some : (seg : List ℕ) (t : List (List Part × K)) → cuts seg (47 ∷ []) ≡ true → longest_from seg [] (rows t) ≡ cond (goes t) (47 ∷ []) []
  longest-some seg [] e = refl
  longest-some seg (([], k) ∷ t) e = longest-some seg t e
  longest-some seg ((p ∷ ps, k) ∷ t) e = ap (λ v. longest_from seg (cond v (47 ∷ []) []) (rows t)) e ∙ longest-slash seg t

  with-going : (t : List (List Part × K)) → with_suffix (47 ∷ []) (rows t) ≡ rows (going t)
  with-going [] = refl
  with-going (([], k) ∷ t) = with-going t
  with-going ((p ∷ ps, k) ∷ t) = ap (λ z. (tokens (p ∷ ps), k) ∷ z) (with-going t)

  insides-going : (t : List (List Part × K)) → insides (going t) ≡ insides t
  insides-going [] = refl
  insides-going (([], k) ∷ t) = insides-going t
  insides-going ((p ∷ ps, k) ∷ t) = ap (λ z. (part_tokens p ++ tokens ps, k) ∷ z) (insides-going t)

  insides-gone : (t : List (List Part × K)) → goes t ≡ false → insides t ≡ []
  insides-gone [] e = refl
  insides-gone (([], k) ∷ t) e = insides-gone t e
  insides-gone ((p ∷ ps, k) ∷ t) e = cc

  -- a parameter at the end of the path
  param-end : (b : ℕ) (s : List ℕ) (t : List (List Part × K)) → Plain (b ∷ s) → param_step (rows t) (b ∷ s) ≡ (length (b ∷ s), rows t)
  unfolding param_step
  param-end b s t p =
      rw (plain-segment (b ∷ s) p, longest-none (b ∷ s) t (plain-cuts (b ∷ s) p), plain-slash (b ∷ s) p) refl

  -- before a slash, where routes go on
  param-going : (b : ℕ) (s r : List ℕ) (t : List (List Part × K)) → Plain (b ∷ s) → goes t ≡ true
      → param_step (rows t) ((b ∷ s) ++ 47 ∷ r) ≡ (length ((b ∷ s) ++ 47 ∷ []) - 1, rows (going t))
  unfolding param_step
  param-going b s r t p g =
      let l : longest_suffix ((b ∷ s) ++ 47 ∷ []) (rows t) ≡ 47 ∷ [] = longest-some ((b ∷ s) ++ 47 ∷ []) t (slash-cuts b s) ∙ ap (λ v. cond v (47 ∷ []) []) g in
      rw (cut-segment (b ∷ s) r p, l, with-going t) refl

  -- before a slash, where none does
  param-gone : (s r : List ℕ) (t : List (List Part × K)) → longest_suffix (segment (s ++ 47 ∷ r)) (rows t) ≡ [] → Plain s
      → param_step (rows t) (s ++ 47 ∷ r) ≡ (0, [])
  unfolding param_step
  param-gone s r t l p = rw (l, cut-slash s r p) refl

  seek-slash : (b : ℕ) (s r : List ℕ) (t : List (List Part × K)) (v : Bool) → goes t ≡ v → Plain (b ∷ s)
      → seek ((param_step (rows t) (b ∷ (s ++ 47 ∷ r))).0 - 1) (param_step (rows t) (b ∷ (s ++ 47 ∷ r))).1 (s ++ 47 ∷ r) ≡ seek 0 (rows t) (47 ∷ r)
  seek-slash b s r t true g p =
      ap (λ z. seek (z.0 - 1) z.1 (s ++ 47 ∷ r)) (param-going b s r t p g)
      ∙ seek-past (length ((b ∷ s) ++ 47 ∷ []) - 1 - 1) (rows (going t)) s (47 ∷ r) (simp length-append (omega arith))
      ∙ seek-rows (going t) r ∙ ap (λ z. seek 0 z r) (insides-going t) ∙ sym (seek-rows t r)
  seek-slash b s r t false g p =
      let l : longest_suffix (segment ((b ∷ s) ++ 47 ∷ r)) (rows t) ≡ [] =
      ap (λ z. longest_suffix z (rows t)) (cut-segment (b ∷ s) r p) ∙ longest-some ((b ∷ s) ++ 47 ∷ []) t (slash-cuts b s) ∙ ap (λ v. cond v (47 ∷ []) []) g in
      ap (λ z. seek (z.0 - 1) z.1 (s ++ 47 ∷ r)) (param-gone (b ∷ s) r t l p) ∙ seek-empty 0 (s ++ 47 ∷ r)
      ∙ sym (seek-rows t r ∙ ap (λ z. seek 0 z r) (insides-gone t g) ∙ seek-empty 0 r)

  seek-param : (b : ℕ) (s rest : List ℕ) (t : List (List Part × K)) → Plain (b ∷ s) → IsRest rest
      → seek ((param_step (rows t) (b ∷ (s ++ rest))).0 - 1) (param_step (rows t) (b ∷ (s ++ rest))).1 (s ++ rest) ≡ seek 0 (rows t) rest
  seek-param b s [] t p i =
      let e : param_step (rows t) (b ∷ (s ++ [])) ≡ (length (b ∷ s), rows t) = ap (λ z. param_step (rows t) (b ∷ z)) (append-nil s) ∙ param-end b s t p in
      ap (λ z. seek (z.0 - 1) z.1 (s ++ [])) e ∙ seek-past (length (b ∷ s) - 1) (rows t) s [] (omega arith)
  seek-param b s (x ∷ r) t p i = rw i (seek-slash b s r t (goes t) refl p)

  -- ---- the whole path

  pub after_word-empty : (t : List (List Part × K)) → AreRoutes t → after_word [] t ≡ []
  after_word-empty [] g = refl
  after_word-empty (([], k) ∷ t) g = after_word-empty t g.1
  after_word-empty ((word [] ∷ ps, k) ∷ t) g = absurd g.0
  after_word-empty ((word (x ∷ w) ∷ ps, k) ∷ t) g = after_word-empty t g.1
  after_word-empty ((any ∷ ps, k) ∷ t) g = after_word-empty t g.1

  pub found-none : (ss : List (List ℕ)) → found {K = K} [] ss ≡ None
  found-none [] = refl
  found-none ([] ∷ ss) = found-none ss
  found-none ((b ∷ s) ∷ ss) = ap (λ z. or_else z z) (found-none ss)

  empty-inside : (ss : List (List ℕ)) (t : List (List Part × K)) → AreRoutes t → seek 0 (insides t) (joined ss) ≡ None
  empty-inside [] t g = seek-end (insides t) ∙ insides-own t g
  empty-inside (s ∷ ss) t g =
      let r = s ++ joined ss in
      let e : param_step (rows (after_any t)) (47 ∷ r) ≡ (0, []) = param-gone [] r (after_any t) (longest-none (47 ∷ []) (after_any t) refl) tt in
      seek-start (insides t) 47 r (insides-all t g)
      ∙ (λ i. or_else (seek 0 (insides-slash t g i) r) (seek ((param_step (insides-any t g i) (47 ∷ r)).0 - 1) (param_step (insides-any t g i) (47 ∷ r)).1 r))
      ∙ (λ i. or_else (seek-empty 0 r i) (seek ((e i).0 - 1) (e i).1 r))
      ∙ seek-empty 0 r

  pub finds : (ss : List (List ℕ)) (t : List (List Part × K)) → AreRoutes t → AllPlain ss → first (rows t) (joined ss) ≡ found t ss
  finds [] t g p = seek-end (rows t) ∙ own-rows t
  finds ([] ∷ ss) t g p =
      seek-rows t (joined ss) ∙ empty-inside ss t g ∙ sym (ap (λ z. found z ss) (after_word-empty t g) ∙ found-none ss)
  finds ((b ∷ s) ∷ ss) t g p =
      let r = s ++ joined ss in
      let l : seek 0 (step b (insides t)) r ≡ found (after_word (b ∷ s) t) ss =
      ap (λ z. seek 0 z r) (insides-byte b t p.0.0 g)
      ∙ seek-word s (half_step b (words t)) (joined ss) p.0.2 (AreHalf-step b (words t) (AreHalf-words t g)) (rest-joined ss)
      ∙ ap (λ z. seek 0 (rows z) (joined ss)) (ended-step b s (words t) ∙ ended-words (b ∷ s) t)
      ∙ finds ss (after_word (b ∷ s) t) (AreRoutes-word (b ∷ s) t g) p.1 in
      let m : seek ((param_step (step 256 (insides t)) (b ∷ r)).0 - 1) (param_step (step 256 (insides t)) (b ∷ r)).1 r ≡ found (after_any t) ss =
      ap (λ z. seek ((param_step z (b ∷ r)).0 - 1) (param_step z (b ∷ r)).1 r) (insides-any t g)
      ∙ seek-param b s (joined ss) (after_any t) p.0 (rest-joined ss)
      ∙ finds ss (after_any t) (AreRoutes-any t g) p.1 in
      seek-rows t (b ∷ r) ∙ seek-start (insides t) b r (insides-all t g) ∙ (λ i. or_else (l i) (m i))

  -- a path that begins with no slash
  pub finds-other : (b : ℕ) (p : List ℕ) (t : List (List Part × K)) → b ≢ 47 → first (rows t) (b ∷ p) ≡ None
  finds-other b p t n =
      seek-byte (rows t) b p (step-no 256 t (λ e. omega arith)) (step-no 257 t (λ e. omega arith))
      ∙ ap (λ z. seek 0 z p) (step-no b t (λ e. n (sym e))) ∙ seek-empty 0 p

  pub finds-empty : (t : List (List Part × K)) → first (rows t) [] ≡ ending t
  finds-empty t = seek-end (rows t) ∙ own-rows t
