use Rattle.sim_rest_command_laws.proofs.Reports.{reports}
use Rattle.sim_rest_command_laws.proofs.command_laws.reports_owe.Goals as goal

pub returns : goal.returns
returns c = reports
