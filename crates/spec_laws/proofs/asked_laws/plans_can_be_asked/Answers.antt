use Rattle.spec_laws.proofs.AskedPlans.{plans_asked}
use Rattle.spec_laws.proofs.asked_laws.plans_can_be_asked.Goals as goal

pub returns : goal.returns
returns c = plans_asked
