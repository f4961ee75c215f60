use Rattle.spec_http.proofs.Read.{one_reply}
use Rattle.spec_http.proofs.reply_laws.one_reply_is_said.Goals as goal

pub returns : goal.returns
returns c = one_reply
