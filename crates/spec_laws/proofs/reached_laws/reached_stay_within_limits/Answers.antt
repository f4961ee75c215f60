use Rattle.spec_laws.proofs.Limited.{limited}
use Rattle.spec_laws.proofs.reached_laws.reached_stay_within_limits.Goals as goal

pub returns : goal.returns
returns c = limited
