use Rattle.spec_laws.proofs.EditedReferences.{read_again}
use Rattle.spec_laws.proofs.parsed_laws.references_read_again.Goals as goal

pub returns : goal.returns
returns c = read_again
