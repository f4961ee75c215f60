-- A run, one step at a time, whatever its states and steps are.
use Rattle.std.proofs.Common.{◌≡◌, sym, ap, ◌∙◌, ℕ, suc, List, [], ◌∷◌, ◌++◌, map, take, length, get_or, ◌+◌, ◌<◌, arith}
use Rattle.std.proofs.Math.Seq.{take-suc}
use mathlib.Core.List.{map-append}

one_on : (n : ℕ) → n + 1 ≡ suc n
one_on n = omega arith

taken : {C : Type 0} (ss : List C) (i : ℕ) (d : C) → i < length ss → take (i + 1) ss ≡ take i ss ++ get_or ss i d ∷ []
taken ss i d within = ap (λ n. take n ss) (one_on i) ∙ take-suc ss i d within

module _ {S T : Type 0} (step : S → T → S) (run : S → List T → S) (none : (w : S) → run w [] ≡ w) (one : (w : S) (s : T) (ss : List T) → run w (s ∷ ss) ≡ run (step w s) ss) where
  -- the last step comes after all others
  pub run_last : (w : S) (ss : List T) (s : T) → run w (ss ++ s ∷ []) ≡ step (run w ss) s
  run_last w [] s = one w s [] ∙ none (step w s) ∙ ap (λ v. step v s) (sym (none w))
  run_last w (r ∷ ss) s = one w r (ss ++ s ∷ []) ∙ run_last (step w r) ss s ∙ ap (λ v. step v s) (sym (one w r ss))

  -- one more step of a slice is taken
  pub next_taken : {C : Type 0} (step_of : C → T) (first old new : S) (ss : List C) (i : ℕ) (d : C) → i < length ss → old ≡ run first (map step_of (take i ss))
      → new ≡ step old (step_of (get_or ss i d)) → new ≡ run first (map step_of (take (i + 1) ss))
  next_taken step_of first old new ss i d within before more =
      let s = get_or ss i d in
      more ∙ ap (λ w. step w (step_of s)) before ∙ sym (run_last first (map step_of (take i ss)) (step_of s))
      ∙ ap (run first) (sym (map-append step_of (take i ss) (s ∷ [])) ∙ ap (map step_of) (sym (taken ss i d within)))
