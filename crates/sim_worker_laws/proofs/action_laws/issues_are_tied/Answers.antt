use Rattle.sim_worker_laws.proofs.Actions.{issues_tied}
use Rattle.sim_worker_laws.proofs.action_laws.issues_are_tied.Goals as goal

pub returns : goal.returns
returns c = issues_tied
