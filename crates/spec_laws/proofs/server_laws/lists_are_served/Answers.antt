use Rattle.spec_laws.proofs.ServerAnswers.{lists_answered}
use Rattle.spec_laws.proofs.server_laws.lists_are_served.Goals as goal

pub returns : goal.returns
returns c = lists_answered
