use Rattle.spec_laws.proofs.AskedNumbers.{names_looked}
use Rattle.spec_laws.proofs.deployment_laws.updates_name_the_looked_version.Goals as goal

pub returns : goal.returns
returns c = names_looked
