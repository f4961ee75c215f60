-- What a world stands for.
use Rattle.spec_sim.specs.ControlPlanes.{ControlPlane}
use Rattle.world.specs.Taken.{plane}
use Rattle.world.specs.StoredStanding as stored
use Rattle.world.specs.WorldStates.{WorldState}

-- what is stored of it has the manager of the control plane, and a cluster that stands for that of the control plane
abbrev pub StandsFor : WorldState → ControlPlane → Type 0
StandsFor w p = stored.StandsFor w.stored p

-- it stands for the control plane that was opened, after the steps that were taken
unfoldable pub Stands : WorldState → Type 0
Stands w = StandsFor w (plane w.trace)
