use Rattle.spec_http.proofs.Read.{cut_lost}
use Rattle.spec_http.proofs.reply_laws.cut_replies_are_lost.Goals as goal

pub returns : goal.returns
returns c = cut_lost
