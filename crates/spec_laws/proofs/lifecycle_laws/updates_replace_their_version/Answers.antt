use Rattle.spec_laws.proofs.NamedVersions.{updates_version}
use Rattle.spec_laws.proofs.lifecycle_laws.updates_replace_their_version.Goals as goal

pub returns : goal.returns
returns c = updates_version
