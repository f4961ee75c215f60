use Rattle.sim_rest_create_laws.proofs.Creates.{pod_creates}
use Rattle.sim_rest_create_laws.proofs.create_laws.pod_creates_owe.Goals as goal

pub returns : goal.returns
returns c = pod_creates
