-- What is in the writer's log, of what waits.
use Rattle.std.proofs.Common.{◌≡◌, ℕ, suc, ◌+◌, ◌<◌, List, [], ◌∷◌, ◌++◌, length, take, get_or, sym, ap, ◌∙◌, arith}
use Rattle.std.proofs.Math.ListN.{get_or-map}
use Rattle.std.proofs.Math.Seq.{take-suc, take-length}
use Rattle.std.proofs.lemmas.List.{map-append}
use Rattle.std.specs.Arc.{arc_value}
use Rattle.std.specs.declared.sync.Arc.{Arc}
use Rattle.reflector.specs.Deltas.{delta_of, deltas_of}
use Rattle.reflector.specs.declared.deltas.Delta.{Delta}
use Rattle.informer.specs.SharedDeltas.{all_in}
use Rattle.informer.proofs.Keeps.{Says, deltas_both}

module _ {A : Type 0} where
  next_of : (ws : List (Arc Delta A)) (n : ℕ) (a b : Arc Delta A) → n < length (all_in ws) → b ≡ get_or ws n b → arc_value a ≡ arc_value b → take n (all_in ws) ++ arc_value a ∷ [] ≡ take (n + 1) (all_in ws)
  next_of ws n a b below is shares =
      let more : suc n ≡ n + 1 = omega arith in
      ap (λ d. take n (all_in ws) ++ d ∷ []) (shares ∙ ap arc_value is ∙ sym (get_or-map arc_value ws n b)) ∙ sym (take-suc (all_in ws) n (arc_value b) below) ∙ ap (λ k. take k (all_in ws)) more

  -- one more of those that wait is in the log
  pub log_one : (ps ws : List (Arc Delta A)) (n : ℕ) (a b : Arc Delta A) → Says ps (take n (all_in ws)) → n < length (all_in ws) → b ≡ get_or ws n b → arc_value a ≡ arc_value b → Says (ps ++ a ∷ []) (take (n + 1) (all_in ws))
  log_one ps ws n a b says below is shares =
      ap deltas_of (map-append arc_value ps (a ∷ [])) ∙ deltas_both (all_in ps) (arc_value a ∷ []) ∙ ap (λ ds. ds ++ delta_of (arc_value a) ∷ []) says ∙ sym (deltas_both (take n (all_in ws)) (arc_value a ∷ [])) ∙ ap deltas_of (next_of ws n a b below is shares)

  -- all that waits is in the log
  pub all_logged : (ps ws : List (Arc Delta A)) (n : ℕ) → Says ps (take n (all_in ws)) → n ≡ length (all_in ws) → Says ps (all_in ws)
  all_logged ps ws n says all = says ∙ ap (λ k. deltas_of (take k (all_in ws))) all ∙ ap deltas_of (take-length (all_in ws))
