use Rattle.sim_service.proofs.Simulated.{replies_simulated}
use Rattle.sim_service.proofs.service_laws.replies_are_simulated.Goals as goal

pub returns : goal.returns
returns c = replies_simulated
