use Rattle.spec_laws.proofs.ServerHistories.{compaction_happens}
use Rattle.spec_laws.proofs.server_laws.compactions_happen.Goals as goal

pub returns : goal.returns
returns c = compaction_happens
