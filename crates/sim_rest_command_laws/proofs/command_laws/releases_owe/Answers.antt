use Rattle.sim_rest_command_laws.proofs.Controlled.{releases}
use Rattle.sim_rest_command_laws.proofs.command_laws.releases_owe.Goals as goal

pub returns : goal.returns
returns c = releases
