-- Steps of a control plane as code has them.
use Rattle.std.specs.Prelude.{List, ℕ, Option, Some, None}
use Rattle.spec_sim.specs.ControlPlanes as planes
use Rattle.spec_sim.specs.ControlPlaneStepLines.{action_with, step_named, works_as}
use Rattle.sim_steps.specs.Actions.{action_of}
use Rattle.sim_steps.specs.Steps.{step_of}
use Rattle.sim_steps.specs.declared.plane_steps.PlaneStep.{PlaneStep}
use Rattle.sim_steps.specs.declared.plane_steps.PlaneStep.TheVariants.{InCluster, Handle, Works, Tick}

abbrev pub plane_step_of : PlaneStep → planes.Step
plane_step_of (InCluster s) = planes.in_cluster (step_of s)
plane_step_of (Handle k) = planes.handle k
plane_step_of (Works w a) = planes.works w (action_of a)
plane_step_of (Tick n) = planes.tick n

-- the step that two or three words ask for
abbrev pub plane_step_by_words : List ℕ × List ℕ × Option (List ℕ) → Option planes.Step
plane_step_by_words (verb, t, None) = step_named verb t
plane_step_by_words (verb, t, Some u) = works_as t (action_with verb u)
