use Rattle.sim_worker_laws.proofs.Actions.{answers_boards}
use Rattle.sim_worker_laws.proofs.action_laws.answers_are_the_boards.Goals as goal

pub returns : goal.returns
returns c = answers_boards
