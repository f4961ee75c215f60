use Rattle.spec_http.proofs.Read.{stays}
use Rattle.spec_http.proofs.reply_laws.whole_replies_stay.Goals as goal

pub returns : goal.returns
returns c = stays
