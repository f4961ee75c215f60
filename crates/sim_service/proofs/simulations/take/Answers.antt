use Rattle.std.proofs.Common.{refl}
use Rattle.spec_sim.specs.ControlPlaneStepLines.{step_asked}
use Rattle.sim_service.proofs.Taken.{told_of_step, world_of_step, nothing_told, nothing_taken, unchanged}
use Rattle.sim_service.proofs.simulations.take.Goals as goal
use Rattle.sim_service.specs.SimulationStates.{told_by_stored, stored_after}
use Rattle.sim_steps.specs.PlaneSteps.{plane_step_of}
use Rattle.world.specs.Outcomes.{outcome_of}

pub returns-in_err-text-clause-text : goal.returns-in_err-text-clause-text
returns-in_err-text-clause-text c = nothing_told c.from_residual.result (told_by_stored c.args.world.now (step_asked c.args.line.now)) c.from_residual.ensures.0

pub returns-in_err-text-clause-world : goal.returns-in_err-text-clause-world
returns-in_err-text-clause-world c = nothing_taken c.from_residual.result c.args.world.now (stored_after c.args.world.now (step_asked c.args.line.now)) c.from_residual.ensures.0

pub returns-in_err-text-clause-err : goal.returns-in_err-text-clause-err
returns-in_err-text-clause-err c = unchanged c.from_residual.result c.args.world.now c.args.world.now refl

pub returns-in_err-outcome-clause-text : goal.returns-in_err-outcome-clause-text
returns-in_err-outcome-clause-text c = nothing_told c.from_residual-in_err-outcome.result (told_by_stored c.args.world.now (step_asked c.args.line.now)) c.from_residual-in_err-outcome.ensures.0

pub returns-in_err-outcome-clause-world : goal.returns-in_err-outcome-clause-world
returns-in_err-outcome-clause-world c =
    nothing_taken c.from_residual-in_err-outcome.result c.step.new.self (stored_after c.args.world.now (step_asked c.args.line.now)) c.from_residual-in_err-outcome.ensures.0

pub returns-in_err-outcome-clause-err : goal.returns-in_err-outcome-clause-err
returns-in_err-outcome-clause-err c = unchanged c.from_residual-in_err-outcome.result c.step.new.self c.args.world.now c.in_err-outcome.ensures.err

pub line_of-requires : goal.line_of-requires
line_of-requires c = record { ready = c.in_ok-text.ensures }

pub returns-clause-text : goal.returns-clause-text
returns-clause-text c =
    told_of_step c.args.world.now c.line_of.result.items (outcome_of c.in_ok-outcome.outcome) (plane_step_of c.step_asked.result) (step_asked c.args.line.now)
    c.line_of.ensures c.in_ok-outcome.ensures.told c.step_asked.ensures

pub returns-clause-world : goal.returns-clause-world
returns-clause-world c = world_of_step c.args.world.now c.step.new.self (plane_step_of c.step_asked.result) (step_asked c.args.line.now) c.in_ok-outcome.ensures.after c.step_asked.ensures

pub returns-clause-err : goal.returns-clause-err
returns-clause-err c = tt
