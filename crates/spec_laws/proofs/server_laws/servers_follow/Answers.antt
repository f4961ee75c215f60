use Rattle.spec_laws.proofs.ServerHistories.{entries_hold}
use Rattle.spec_laws.proofs.server_laws.servers_follow.Goals as goal

pub returns : goal.returns
returns c = entries_hold
