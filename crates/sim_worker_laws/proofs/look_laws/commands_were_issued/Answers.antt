use Rattle.sim_worker_laws.proofs.LookRuns.{were_issued}
use Rattle.sim_worker_laws.proofs.look_laws.commands_were_issued.Goals as goal

pub returns : goal.returns
returns c = were_issued
