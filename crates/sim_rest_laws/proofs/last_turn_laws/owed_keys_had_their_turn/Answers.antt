use Rattle.sim_rest_laws.proofs.LastTurns.{owed_had}
use Rattle.sim_rest_laws.proofs.last_turn_laws.owed_keys_had_their_turn.Goals as goal

pub returns : goal.returns
returns c = owed_had
