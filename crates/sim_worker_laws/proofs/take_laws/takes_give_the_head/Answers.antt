use Rattle.sim_worker_laws.proofs.Takes.{takes_give}
use Rattle.sim_worker_laws.proofs.take_laws.takes_give_the_head.Goals as goal

pub returns : goal.returns
returns c = takes_give
