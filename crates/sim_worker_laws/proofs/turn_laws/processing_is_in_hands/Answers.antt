use Rattle.sim_worker_laws.proofs.HandRuns.{processing}
use Rattle.sim_worker_laws.proofs.turn_laws.processing_is_in_hands.Goals as goal

pub returns : goal.returns
returns c = processing
