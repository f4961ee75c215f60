use Rattle.spec_laws.proofs.ServerAnswers.{lines_held}
use Rattle.spec_laws.proofs.server_laws.servers_show.Goals as goal

pub returns : goal.returns
returns c = lines_held
