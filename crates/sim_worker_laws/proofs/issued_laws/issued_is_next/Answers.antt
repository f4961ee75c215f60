use Rattle.sim_worker_laws.proofs.IssuedRuns.{issued_next}
use Rattle.sim_worker_laws.proofs.issued_laws.issued_is_next.Goals as goal

pub returns : goal.returns
returns c = issued_next
