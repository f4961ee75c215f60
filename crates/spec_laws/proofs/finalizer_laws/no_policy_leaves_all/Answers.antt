use Rattle.spec_laws.proofs.FinalizerSets.{no_policy}
use Rattle.spec_laws.proofs.finalizer_laws.no_policy_leaves_all.Goals as goal

pub returns : goal.returns
returns c = no_policy
