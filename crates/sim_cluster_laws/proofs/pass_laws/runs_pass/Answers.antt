use Rattle.sim_cluster_laws.proofs.PassRuns.{runs_pass}
use Rattle.sim_cluster_laws.proofs.pass_laws.runs_pass.Goals as goal

pub returns : goal.returns
returns c = runs_pass
