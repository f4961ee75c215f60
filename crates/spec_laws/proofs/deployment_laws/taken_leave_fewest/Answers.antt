use Rattle.spec_laws.proofs.RolloutPlans.{taken_leave}
use Rattle.spec_laws.proofs.deployment_laws.taken_leave_fewest.Goals as goal

pub returns : goal.returns
returns c = taken_leave
