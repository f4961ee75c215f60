use Rattle.sim_worker_laws.proofs.LookRuns.{under_way}
use Rattle.sim_worker_laws.proofs.look_laws.turns_are_under_way.Goals as goal

pub returns : goal.returns
returns c = under_way
