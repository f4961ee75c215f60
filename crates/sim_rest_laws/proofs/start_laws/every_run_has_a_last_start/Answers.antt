use Rattle.sim_rest_laws.proofs.Starts.{last_starts}
use Rattle.sim_rest_laws.proofs.start_laws.every_run_has_a_last_start.Goals as goal

pub returns : goal.returns
returns c = last_starts
