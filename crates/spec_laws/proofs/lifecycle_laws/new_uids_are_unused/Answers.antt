use Rattle.spec_laws.proofs.UidsOnce.{unused}
use Rattle.spec_laws.proofs.lifecycle_laws.new_uids_are_unused.Goals as goal

pub returns : goal.returns
returns c = unused
