use Rattle.spec_laws.proofs.NamedVersions.{deletes_uid}
use Rattle.spec_laws.proofs.lifecycle_laws.deletes_find_their_uid.Goals as goal

pub returns : goal.returns
returns c = deletes_uid
