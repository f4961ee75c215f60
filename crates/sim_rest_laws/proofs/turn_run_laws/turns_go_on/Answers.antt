use Rattle.sim_rest_laws.proofs.TurnSteps.{turns_go}
use Rattle.sim_rest_laws.proofs.turn_run_laws.turns_go_on.Goals as goal

pub returns : goal.returns
returns c = turns_go
