use Rattle.sim_rest_laws.proofs.Whole.{follows}
use Rattle.sim_rest_laws.proofs.whole_laws.it_follows.Goals as goal

pub returns : goal.returns
returns c = follows
