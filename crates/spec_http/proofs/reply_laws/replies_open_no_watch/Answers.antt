use Rattle.spec_http.proofs.Read.{no_watch}
use Rattle.spec_http.proofs.reply_laws.replies_open_no_watch.Goals as goal

pub returns : goal.returns
returns c = no_watch
