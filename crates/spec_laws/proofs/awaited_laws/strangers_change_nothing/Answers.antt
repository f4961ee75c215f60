use Rattle.spec_laws.proofs.Awaited.{strangers}
use Rattle.spec_laws.proofs.awaited_laws.strangers_change_nothing.Goals as goal

pub returns : goal.returns
returns c = strangers
