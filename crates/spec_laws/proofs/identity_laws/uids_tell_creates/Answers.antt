use Rattle.spec_laws.proofs.Traced.{traced}
use Rattle.spec_laws.proofs.identity_laws.uids_tell_creates.Goals as goal

pub returns : goal.returns
returns c = traced
