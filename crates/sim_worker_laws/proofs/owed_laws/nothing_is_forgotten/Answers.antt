use Rattle.sim_worker_laws.proofs.Owed.{nothing_forgotten}
use Rattle.sim_worker_laws.proofs.owed_laws.nothing_is_forgotten.Goals as goal

pub returns : goal.returns
returns c = nothing_forgotten
