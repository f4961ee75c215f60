use Rattle.spec_laws.proofs.FirstChanges.{first_given}
use Rattle.spec_laws.proofs.version_laws.watches_give_first_changes.Goals as goal

pub returns : goal.returns
returns c = first_given
