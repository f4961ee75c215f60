-- What a table of routes below words finds.
use Rattle.std.proofs.Common.{◌≡◌, ℕ, List, [], ◌∷◌, ◌++◌, Option, Some, None, MatchOption, Bool, true, false, cond, refl, sym, ap, ◌∙◌, ◌&&◌, append-nil}
use Rattle.std.specs.Cmp.Lexicographic.{bytes_decides}
use Rattle.std.specs.List.{list_all}
use Rattle.matchit.specs.Seek.{same_text, or_else}
use Rattle.request_parts.specs.Parts.{Part, word, found, after_word, after_any, ending}
use Rattle.spec_api.proofs.Truths.{right_true}
use Rattle.spec_api.specs.Targets.{after_words, is_filled}
use Rattle.request_parts.proofs.Seeks.{found-none}
use Rattle.request_parts.proofs.Walks.{Fits, taken}

abbrev pub IsFilled : List (List ℕ) → Type 0
IsFilled ss = list_all is_filled ss ≡ true

pub filled-tail : (s : List ℕ) (ss : List (List ℕ)) → IsFilled (s ∷ ss) → IsFilled ss
filled-tail s ss h = right_true (is_filled s) (list_all is_filled ss) h

pub same : (u v : List ℕ) → same_text u v ≡ true → u ≡ v
same u v h = (bytes_decides u v).0 h

pub filled-rest : (ws : List (List ℕ)) (ss : List (List ℕ)) → IsFilled ss → MatchOption (after_words ws ss) (Unit {0}) IsFilled
filled-rest [] ss h = h
filled-rest (w ∷ ws) [] h = tt
filled-rest (w ∷ ws) (s ∷ ss) h = by (same_text w s) (filled-rest ws ss (filled-tail s ss h))
  where
    by : (v : Bool) → MatchOption (after_words ws ss) (Unit {0}) IsFilled → MatchOption (cond v (after_words ws ss) None) (Unit {0}) IsFilled
    by true ih = ih
    by false ih = tt

-- a prefix's words fit what stands before the rest
abbrev pub worded : List (List ℕ) → List Part → List Part
worded [] ps = ps
worded (w ∷ ws) ps = word w ∷ worded ws ps

abbrev pub Goes : List (List ℕ) → List Part → List (List ℕ) → List (ℕ × ℕ) → List ℕ → List (List ℕ) → Type 0
Goes ws ps ss ns text r = Fits ps r ns → Fits (worded ws ps) ss ns × (taken text (worded ws ps) ss ns ≡ taken text ps r ns)

pub goes_on : (ws : List (List ℕ)) (ps : List Part) (ss : List (List ℕ)) (ns : List (ℕ × ℕ)) (text : List ℕ)
    → MatchOption (after_words ws ss) (Unit {0}) (Goes ws ps ss ns text)
goes_on [] ps ss ns text = λ f. (f, refl)
goes_on (w ∷ ws) ps [] ns text = tt
goes_on (w ∷ ws) ps (s ∷ ss) ns text = by (same_text w s) refl (after_words ws ss) (goes_on ws ps ss ns text)
  where
    by : (v : Bool) → same_text w s ≡ v → (o : Option (List (List ℕ))) → MatchOption o (Unit {0}) (Goes ws ps ss ns text) → MatchOption (cond v o None) (Unit {0}) (Goes (w ∷ ws) ps (s ∷ ss) ns text)
    by true e None ih = tt
    by true e (Some r) ih = λ f. ((same w s e, (ih f).0), (ih f).1)
    by false e o ih = tt

either : {X : Type 0} (v : Bool) (x : X) → x ≡ cond v x x
either true x = refl
either false x = refl

module _ {K : Type 0} where
  abbrev pub under : List ℕ → List (List Part × K) → List (List Part × K)
  under w [] = []
  under w ((ps, k) ∷ t) = (word w ∷ ps, k) ∷ under w t

  abbrev pub unders : List (List ℕ) → List (List Part × K) → List (List Part × K)
  unders [] t = t
  unders (w ∷ ws) t = under w (unders ws t)

  pub after-under : (w s : List ℕ) (t rest : List (List Part × K))
      → after_word s (under w t ++ rest) ≡ cond (same_text w s) (t ++ after_word s rest) (after_word s rest)
  after-under w s [] rest = either (same_text w s) (after_word s rest)
  after-under w s ((ps, k) ∷ t) rest = by (same_text w s) (after_word s (under w t ++ rest)) (after-under w s t rest)
    where
      by : (v : Bool) (x : List (List Part × K)) → x ≡ cond v (t ++ after_word s rest) (after_word s rest)
          → cond v ((ps, k) ∷ x) x ≡ cond v ((ps, k) ∷ (t ++ after_word s rest)) (after_word s rest)
      by true x ih = ap (λ z. (ps, k) ∷ z) ih
      by false x ih = ih

  pub after-word : (w s : List ℕ) (t : List (List Part × K)) → after_word s (under w t) ≡ cond (same_text w s) t []
  after-word w s t =
      ap (after_word s) (sym (append-nil (under w t))) ∙ after-under w s t [] ∙ ap (λ z. cond (same_text w s) z []) (append-nil t)

  under-any : (w : List ℕ) (t : List (List Part × K)) → after_any (under w t) ≡ []
  under-any w [] = refl
  under-any w ((ps, k) ∷ t) = under-any w t

  under-ending : (w : List ℕ) (t : List (List Part × K)) → ending (under w t) ≡ None
  under-ending w [] = refl
  under-ending w ((ps, k) ∷ t) = under-ending w t

  pub or-none : (a : Option K) → or_else a None ≡ a
  or-none None = refl
  or-none (Some k) = refl

  abbrev pub on_rest : List (List Part × K) → Option (List (List ℕ)) → Option K
  on_rest t None = None
  on_rest t (Some r) = found t r

  pub found-words : (ws : List (List ℕ)) (t : List (List Part × K)) (ss : List (List ℕ)) → IsFilled ss → found (unders ws t) ss ≡ on_rest t (after_words ws ss)
  found-words [] t ss h = refl
  found-words (w ∷ ws) t [] h = under-ending w (unders ws t)
  found-words (w ∷ ws) t ([] ∷ ss) h = cc
  found-words (w ∷ ws) t ((b ∷ s) ∷ ss) h =
      (λ i. or_else (found (after-word w (b ∷ s) (unders ws t) i) ss) (found (under-any w (unders ws t) i) ss))
      ∙ ap (λ z. or_else (found (cond (same_text w (b ∷ s)) (unders ws t) []) ss) z) (found-none ss)
      ∙ or-none (found (cond (same_text w (b ∷ s)) (unders ws t) []) ss)
      ∙ by (same_text w (b ∷ s)) (found-words ws t ss (filled-tail (b ∷ s) ss h))
    where
      by : (v : Bool) → found (unders ws t) ss ≡ on_rest t (after_words ws ss) → found (cond v (unders ws t) []) ss ≡ on_rest t (cond v (after_words ws ss) None)
      by true ih = ih
      by false ih = found-none ss

  -- a step where only parameters stand
  pub any-step : (b : ℕ) (s : List ℕ) (ss : List (List ℕ)) (t : List (List Part × K)) → after_word (b ∷ s) t ≡ [] → found t ((b ∷ s) ∷ ss) ≡ found (after_any t) ss
  any-step b s ss t e =
      ap (λ z. or_else (found z ss) (found (after_any t) ss)) e ∙ ap (λ z. or_else z (found (after_any t) ss)) (found-none ss)
