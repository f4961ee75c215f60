use Rattle.spec_laws.proofs.SameObjects.{at_the_version}
use Rattle.spec_laws.proofs.replacement_laws.updates_are_at_the_version.Goals as goal

pub returns : goal.returns
returns c = at_the_version
