use Rattle.sim_rest_set_laws.proofs.First.{sets_first}
use Rattle.sim_rest_set_laws.proofs.set_laws.replica_sets_first_commands_owe.Goals as goal

pub returns : goal.returns
returns c = sets_first
