use Rattle.sim_service.proofs.Simulated.{follows}
use Rattle.sim_service.proofs.service_laws.simulations_follow.Goals as goal

pub returns : goal.returns
returns c = follows
