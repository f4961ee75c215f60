use Rattle.spec_api.proofs.Uids.{existing}
use Rattle.spec_laws.proofs.history_laws.uids_hold_revisions.Goals as goal

pub returns : goal.returns
returns c = existing
