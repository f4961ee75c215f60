use Rattle.spec_laws.proofs.SentLists.{lists_nest}
use Rattle.spec_laws.proofs.sent_laws.lists_nest.Goals as goal

pub returns : goal.returns
returns c = lists_nest
