use Rattle.sim_rest_laws.proofs.YesRuns.{answers_yes}
use Rattle.sim_rest_laws.proofs.whole_laws.last_answers_are_yes.Goals as goal

pub returns : goal.returns
returns c = answers_yes
