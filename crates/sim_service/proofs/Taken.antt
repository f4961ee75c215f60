-- What is told of a step that a line asks for, and the world after it.
use Rattle.std.proofs.Common.{◌≡◌, ℕ, List, Vec, Global, Result, Ok, Err, IfOk, OnOk, OnErr, false, true, ap, ◌∙◌}
use Rattle.std.specs.Result.{IsErr}
use Rattle.spec_sim.specs.ControlPlanes.{Step}
use Rattle.spec_sim.specs.Outcomes.{Outcome}
use Rattle.spec_sim.specs.ControlPlaneOutcomeTexts.{outcome_text}
use Rattle.sim_service.specs.SimulationStates.{told_by_stored, stored_after}
use Rattle.world.specs.WorldStates.{WorldState, step}

pub told_of_step : (w : WorldState) (text : List ℕ) (o : Outcome) (s t : Step) → text ≡ outcome_text o → o ≡ (step w s).outcome → s ≡ t → text ≡ told_by_stored w t
unfolding told_by_stored
told_of_step w text o s t written is same = written ∙ ap outcome_text is ∙ ap (λ (r : Step). outcome_text (step w r).outcome) same

pub world_of_step : (w v : WorldState) (s t : Step) → v ≡ (step w s).world → s ≡ t → v ≡ stored_after w t
unfolding stored_after
world_of_step w v s t is same = is ∙ ap (λ (r : Step). (step w r).world) same

-- where a step is not taken, nothing is told and nothing changes
no : false ≡ true → ⊥
no is = cc

pub nothing_told : {E : Type 0} (r : Result (Vec ℕ Global) E) (text : List ℕ) → IsErr r → IfOk r (λ (l : Vec ℕ Global). l.items ≡ text)
nothing_told (Ok l) text is = absurd (no is)
nothing_told (Err e) text is = tt

pub nothing_taken : {E : Type 0} (r : Result (Vec ℕ Global) E) (v w : WorldState) → IsErr r → OnOk r (v ≡ w)
nothing_taken (Ok l) v w is = absurd (no is)
nothing_taken (Err e) v w is = tt

pub unchanged : {E : Type 0} (r : Result (Vec ℕ Global) E) (v w : WorldState) → v ≡ w → OnErr r (v ≡ w)
unchanged (Ok l) v w is = tt
unchanged (Err e) v w is = is
