use Rattle.sim_rest_command_laws.proofs.Controlled.{controlled}
use Rattle.sim_rest_command_laws.proofs.command_laws.controlled_owe.Goals as goal

pub returns : goal.returns
returns c = controlled
