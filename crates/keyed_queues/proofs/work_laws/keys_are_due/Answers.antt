use Rattle.keyed_queues.proofs.WorkDelays.{same_due}
use Rattle.keyed_queues.proofs.work_laws.keys_are_due.Goals as goal

pub returns : goal.returns
returns c = same_due
