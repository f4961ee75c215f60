use Rattle.spec_laws.proofs.SameObjects.{same_objects}
use Rattle.spec_laws.proofs.replacement_laws.same_but_for_the_version.Goals as goal

pub returns : goal.returns
returns c = same_objects
