use Rattle.spec_laws.proofs.SnapshotSteps.{followed}
use Rattle.spec_laws.proofs.snapshot_laws.snapshots_follow.Goals as goal

pub returns : goal.returns
returns c = followed
