use Rattle.spec_laws.proofs.ServerAnswers.{pages_held}
use Rattle.spec_laws.proofs.server_laws.servers_answer_lists.Goals as goal

pub returns : goal.returns
returns c = pages_held
