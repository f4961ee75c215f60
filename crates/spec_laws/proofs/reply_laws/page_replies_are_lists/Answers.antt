use Rattle.spec_laws.proofs.PageReplies.{page_replies}
use Rattle.spec_laws.proofs.reply_laws.page_replies_are_lists.Goals as goal

pub returns : goal.returns
returns c = page_replies
