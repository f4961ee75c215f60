use Rattle.spec_laws.proofs.ServerAnswers.{lists_held}
use Rattle.spec_laws.proofs.server_laws.servers_list.Goals as goal

pub returns : goal.returns
returns c = lists_held
