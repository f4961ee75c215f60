use Rattle.spec_laws.proofs.ServerHistories.{accepted_holds}
use Rattle.spec_laws.proofs.server_laws.servers_accept.Goals as goal

pub returns : goal.returns
returns c = accepted_holds
