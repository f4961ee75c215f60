use Rattle.sim_rest_command_laws.proofs.Collecting.{collectors_first}
use Rattle.sim_rest_command_laws.proofs.command_laws.collectors_first_commands_owe.Goals as goal

pub returns : goal.returns
returns c = collectors_first
