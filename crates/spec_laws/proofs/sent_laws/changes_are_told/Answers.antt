use Rattle.spec_laws.proofs.SentChanges.{changes_told}
use Rattle.spec_laws.proofs.sent_laws.changes_are_told.Goals as goal

pub returns : goal.returns
returns c = changes_told
