use Rattle.spec_laws.proofs.NamedVersions.{statuses_version}
use Rattle.spec_laws.proofs.lifecycle_laws.statuses_replace_their_version.Goals as goal

pub returns : goal.returns
returns c = statuses_version
