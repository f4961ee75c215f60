use Rattle.std.proofs.Common.{subst}
use Rattle.server.specs.Replies.{Finds}
use Rattle.server.proofs.Pages.{found_lacking, found_same}
use Rattle.server.proofs.paging.opened.Goals as goal

pub returns-in-Err : goal.returns-in-Err
returns-in-Err c o finds = subst (Finds o) c.in-Err.is finds

pub returns-in-Ok-open : goal.returns-in-Ok-open
returns-in-Ok-open c o finds = found_same o c.in-Ok.page c.in-Ok-open.text c.args.page c.in-Ok.is c.in-Ok-open.ensures finds

pub returns-in-Err-open : goal.returns-in-Err-open
returns-in-Err-open c o finds = found_lacking o c.in-Ok.page (subst (Finds o) c.in-Ok.is finds)
