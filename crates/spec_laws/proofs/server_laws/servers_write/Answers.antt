use Rattle.spec_laws.proofs.ServerHistories.{written_holds}
use Rattle.spec_laws.proofs.server_laws.servers_write.Goals as goal

pub returns : goal.returns
returns c = written_holds
