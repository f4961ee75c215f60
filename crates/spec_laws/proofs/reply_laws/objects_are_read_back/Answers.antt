use Rattle.spec_laws.proofs.RepliesRead.{objects_back}
use Rattle.spec_laws.proofs.reply_laws.objects_are_read_back.Goals as goal

pub returns : goal.returns
returns c = objects_back
