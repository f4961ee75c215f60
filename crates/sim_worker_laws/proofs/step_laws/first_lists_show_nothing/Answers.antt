use Rattle.sim_worker_laws.proofs.Steps.{first_shows_nothing}
use Rattle.sim_worker_laws.proofs.step_laws.first_lists_show_nothing.Goals as goal

pub returns : goal.returns
returns c = first_shows_nothing
