use Rattle.spec_laws.proofs.ServerHistories.{opened_holds}
use Rattle.spec_laws.proofs.server_laws.servers_open.Goals as goal

pub returns : goal.returns
returns c = opened_holds
