use Rattle.spec_laws.proofs.FutureUids.{future_uids}
use Rattle.spec_laws.proofs.uid_laws.future_uids_are_later.Goals as goal

pub returns : goal.returns
returns c = future_uids
