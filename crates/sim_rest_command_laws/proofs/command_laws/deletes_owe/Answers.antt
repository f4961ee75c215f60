use Rattle.sim_rest_command_laws.proofs.Deletes.{deletes}
use Rattle.sim_rest_command_laws.proofs.command_laws.deletes_owe.Goals as goal

pub returns : goal.returns
returns c = deletes
