use Rattle.sim_rest_laws.proofs.TurnRuns.{from_take}
use Rattle.sim_rest_laws.proofs.turn_run_laws.turns_go_from_their_take.Goals as goal

pub returns : goal.returns
returns c = from_take
