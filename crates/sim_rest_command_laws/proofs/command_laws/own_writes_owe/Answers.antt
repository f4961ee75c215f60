use Rattle.sim_rest_command_laws.proofs.Leads.{own_writes}
use Rattle.sim_rest_command_laws.proofs.command_laws.own_writes_owe.Goals as goal

pub returns : goal.returns
returns c = own_writes
