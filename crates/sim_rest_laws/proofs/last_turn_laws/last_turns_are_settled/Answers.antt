use Rattle.sim_rest_laws.proofs.LastTurns.{settled}
use Rattle.sim_rest_laws.proofs.last_turn_laws.last_turns_are_settled.Goals as goal

pub returns : goal.returns
returns c = settled
