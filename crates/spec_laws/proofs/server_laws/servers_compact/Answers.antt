use Rattle.spec_laws.proofs.ServerHistories.{compaction_holds}
use Rattle.spec_laws.proofs.server_laws.servers_compact.Goals as goal

pub returns : goal.returns
returns c = compaction_holds
