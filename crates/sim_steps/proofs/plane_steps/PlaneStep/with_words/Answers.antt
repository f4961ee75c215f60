use Rattle.std.proofs.Common.{◌∙◌, ap, sym, List, ℕ, Option, option_map, Bor}
use Rattle.spec_sim.specs.ControlPlaneStepLines.{works_as}
use Rattle.sim_steps.specs.PlaneSteps.{plane_step_by_words}
use Rattle.sim_steps.proofs.plane_steps.PlaneStep.with_words.Goals as goal

pub returns-in-Some : goal.returns-in-Some
returns-in-Some c =
    let w = c.args.words.now in
    c.works.ensures
    ∙ ap (works_as w.second.now) c.with.ensures
    ∙ ap (λ (o : Option (Bor (List ℕ))). plane_step_by_words (w.first.now, w.second.now, option_map (λ t. t.now) o)) (sym c.in-Some.is)
