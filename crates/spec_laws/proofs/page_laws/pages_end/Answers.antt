use Rattle.spec_api.proofs.PageLists.{nothing_remains}
use Rattle.spec_laws.proofs.page_laws.pages_end.Goals as goal

pub returns : goal.returns
returns c = nothing_remains
