use Rattle.spec_laws.proofs.Awaited.{seen_no_more}
use Rattle.spec_laws.proofs.awaited_laws.seen_is_awaited_no_more.Goals as goal

pub returns : goal.returns
returns c = seen_no_more
