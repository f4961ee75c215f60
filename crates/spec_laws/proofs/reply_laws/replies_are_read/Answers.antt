use Rattle.spec_laws.proofs.RepliesRead.{replies_read}
use Rattle.spec_laws.proofs.reply_laws.replies_are_read.Goals as goal

pub returns : goal.returns
returns c = replies_read
