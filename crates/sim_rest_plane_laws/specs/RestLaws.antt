-- At rest, what is declared is there.
use Rattle.spec_client_go.specs.declared.controller.Controller.{Controller}
use Rattle.sim_rest_laws.specs.WholeLaws.{LastPlansAreEmptyOf}

-- of each controller, over every list of steps: the plan of a last turn for an object that it looks after, and that is there, was empty
abbrev pub LastPlansAreEmpty : Type 0
LastPlansAreEmpty = (c : Controller) → LastPlansAreEmptyOf c
