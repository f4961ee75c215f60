use Rattle.spec_http.proofs.Read.{written_read}
use Rattle.spec_http.proofs.reply_laws.written_replies_are_read.Goals as goal

pub returns : goal.returns
returns c = written_read
