use Rattle.spec_laws.proofs.ReadAgain.{reads_again}
use Rattle.spec_laws.proofs.history_laws.reads_again.Goals as goal

pub returns : goal.returns
returns c = reads_again
