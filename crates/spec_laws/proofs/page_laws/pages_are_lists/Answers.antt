use Rattle.spec_laws.proofs.JoinedPages.{pages_are_lists}
use Rattle.spec_laws.proofs.page_laws.pages_are_lists.Goals as goal

pub returns : goal.returns
returns c = pages_are_lists
