use Rattle.sim_worker_laws.proofs.Actions.{undone_no_more}
use Rattle.sim_worker_laws.proofs.action_laws.undone_is_expected_no_more.Goals as goal

pub returns : goal.returns
returns c = undone_no_more
