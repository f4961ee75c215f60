use Rattle.spec_laws.proofs.NamedVersions.{patches_version}
use Rattle.spec_laws.proofs.lifecycle_laws.patches_replace_their_version.Goals as goal

pub returns : goal.returns
returns c = patches_version
