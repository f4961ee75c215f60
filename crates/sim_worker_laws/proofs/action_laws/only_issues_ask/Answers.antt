use Rattle.sim_worker_laws.proofs.Actions.{only_issues}
use Rattle.sim_worker_laws.proofs.action_laws.only_issues_ask.Goals as goal

pub returns : goal.returns
returns c = only_issues
