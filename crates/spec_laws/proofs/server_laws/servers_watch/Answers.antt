use Rattle.spec_laws.proofs.ServerAnswers.{watches_held}
use Rattle.spec_laws.proofs.server_laws.servers_watch.Goals as goal

pub returns : goal.returns
returns c = watches_held
