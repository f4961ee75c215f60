use Rattle.spec_laws.proofs.SentLists.{lists_put}
use Rattle.spec_laws.proofs.sent_laws.lists_are_put.Goals as goal

pub returns : goal.returns
returns c = lists_put
