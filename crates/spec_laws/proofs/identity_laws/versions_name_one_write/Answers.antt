use Rattle.spec_laws.proofs.Versions.{names_one}
use Rattle.spec_laws.proofs.identity_laws.versions_name_one_write.Goals as goal

pub returns : goal.returns
returns c = names_one
