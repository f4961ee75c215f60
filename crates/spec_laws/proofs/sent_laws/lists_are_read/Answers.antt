use Rattle.spec_laws.proofs.SentLists.{lists_read}
use Rattle.spec_laws.proofs.sent_laws.lists_are_read.Goals as goal

pub returns : goal.returns
returns c = lists_read
