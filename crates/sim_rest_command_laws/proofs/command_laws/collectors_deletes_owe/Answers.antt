use Rattle.sim_rest_command_laws.proofs.Deleting.{collectors_delete}
use Rattle.sim_rest_command_laws.proofs.command_laws.collectors_deletes_owe.Goals as goal

pub returns : goal.returns
returns c = collectors_delete
