use Rattle.spec_laws.proofs.ValidNames.{names_valid}
use Rattle.spec_laws.proofs.parsed_laws.names_are_valid.Goals as goal

pub returns : goal.returns
returns c = names_valid
