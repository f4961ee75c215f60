use Rattle.spec_laws.proofs.NamedVersions.{deletes_version}
use Rattle.spec_laws.proofs.lifecycle_laws.deletes_remove_their_version.Goals as goal

pub returns : goal.returns
returns c = deletes_version
