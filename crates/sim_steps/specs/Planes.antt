-- What a simulation answers and how it goes on, as the definitions have it.
use Rattle.std.specs.Prelude.{ℕ, List, Option}
use Rattle.spec_sim.specs.ControlPlanes as planes
use Rattle.spec_sim.specs.ControlPlanes.{ControlPlane, Step}
use Rattle.spec_sim.specs.ControlPlaneOutcomeTexts.{outcome_text}
use Rattle.spec_sim.specs.ControlPlaneStepLines.{opened_with}
use Rattle.sim_steps.specs.Lines as lines

abbrev pub plane_after : ControlPlane → Step → ControlPlane
plane_after p step = (planes.step p step).plane

abbrev pub told_by_plane : ControlPlane → Step → List ℕ
told_by_plane p step = outcome_text (planes.step p step).outcome

abbrev pub reply_by_plane : Option ControlPlane → List ℕ → List ℕ
reply_by_plane s t = lines.reply opened_with plane_after told_by_plane s t

abbrev pub next_plane : Option ControlPlane → List ℕ → Option ControlPlane
next_plane s t = lines.next opened_with plane_after told_by_plane s t
