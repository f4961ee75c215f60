use Rattle.spec_laws.proofs.Versions.{tells}
use Rattle.spec_laws.proofs.identity_laws.versions_tell_writes.Goals as goal

pub returns : goal.returns
returns c = tells
