use Rattle.sim_worker_laws.proofs.Takes.{only_takes}
use Rattle.sim_worker_laws.proofs.take_laws.only_takes_give.Goals as goal

pub returns : goal.returns
returns c = only_takes
