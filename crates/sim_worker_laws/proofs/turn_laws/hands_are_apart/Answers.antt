use Rattle.sim_worker_laws.proofs.HandRuns.{apart}
use Rattle.sim_worker_laws.proofs.turn_laws.hands_are_apart.Goals as goal

pub returns : goal.returns
returns c = apart
