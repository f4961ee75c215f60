use Rattle.sim_rest_deployment_laws.proofs.FirstCommands.{first_commands_owe}
use Rattle.sim_rest_deployment_laws.proofs.deployment_laws.deployments_first_commands_owe.Goals as goal

pub returns : goal.returns
returns c = first_commands_owe
