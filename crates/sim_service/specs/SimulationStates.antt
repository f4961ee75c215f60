-- What a simulation answers and how it goes on, as it is stored.
use Rattle.std.specs.Prelude.{ℕ, List, Option}
use Rattle.std.specs.Coded.{Coded, coded_option}
use Rattle.spec_sim.specs.StepLines.{Config}
use Rattle.spec_sim.specs.ControlPlanes.{Step}
use Rattle.spec_sim.specs.ControlPlaneOutcomeTexts.{outcome_text}
use Rattle.sim_steps.specs.Lines as lines
use Rattle.world.specs.WorldStates as stored
use Rattle.world.specs.WorldStates.{WorldState, coded_world}

-- a code by which a model may store it
abbrev pub coded_simulation : Coded (Option WorldState)
coded_simulation = coded_option coded_world

abbrev pub opened_stored : Config → WorldState
opened_stored c = stored.opened c.window c.workers c.initial

unfoldable pub stored_after : WorldState → Step → WorldState
stored_after w step = (stored.step w step).world

unfoldable pub told_by_stored : WorldState → Step → List ℕ
told_by_stored w step = outcome_text (stored.step w step).outcome

-- of the first line
abbrev pub first_text : List ℕ → Option Config → List ℕ
first_text t c = lines.first_text opened_stored stored_after told_by_stored t c

abbrev pub first_stored : List ℕ → Option Config → WorldState
first_stored t c = lines.first_world opened_stored stored_after told_by_stored t c

abbrev pub reply_by_stored : Option WorldState → List ℕ → List ℕ
reply_by_stored s t = lines.reply opened_stored stored_after told_by_stored s t

abbrev pub next_stored : Option WorldState → List ℕ → Option WorldState
next_stored s t = lines.next opened_stored stored_after told_by_stored s t
