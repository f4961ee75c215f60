-- The plans of last turns were empty, since the first command of a plan owes the key of its turn.
use Rattle.spec_client_go.specs.declared.controller.Controller.{Controller}
use Rattle.sim_rest_laws.specs.WholeLaws.{LastPlansAreEmptyOf}
use Rattle.sim_rest_command_laws.specs.FirstCommandLaws.{FirstCommandsOweOf}

-- whatever steps are taken: where the first commands of a controller owe their keys, its last plans were empty
abbrev pub LastPlansFollow : Type 0
LastPlansFollow = (c : Controller) → FirstCommandsOweOf c → LastPlansAreEmptyOf c
