use Rattle.sim_rest_laws.proofs.Still.{are_still}
use Rattle.sim_rest_laws.proofs.still_laws.last_turns_are_still.Goals as goal

pub returns : goal.returns
returns c = are_still
