use Rattle.spec_laws.proofs.OnePage.{one_page}
use Rattle.spec_laws.proofs.reply_laws.lists_are_one_page.Goals as goal

pub returns : goal.returns
returns c = one_page
