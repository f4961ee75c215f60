use Rattle.std.proofs.Common.{ap, ◌∙◌}
use Rattle.spec_sim.specs.ControlPlaneStepLines.{step_asked}
use Rattle.sim_service.specs.SimulationStates.{told_by_stored, opened_stored}
use Rattle.sim_service.proofs.simulations.first_step.Goals as goal

pub returns-clause-text : goal.returns-clause-text
returns-clause-text c =
    let world = c.in_ok-world.ensures.opened ∙ ap opened_stored c.default.ensures in
    c.in_ok-text.ensures.text ∙ ap (λ w. told_by_stored w (step_asked c.args.line.now)) world
