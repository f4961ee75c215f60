use Rattle.spec_http.proofs.Read.{watches_read}
use Rattle.spec_http.proofs.reply_laws.written_watches_are_read.Goals as goal

pub returns : goal.returns
returns c = watches_read
