use Rattle.spec_laws.proofs.FinalizerSets.{policies_replace}
use Rattle.spec_laws.proofs.finalizer_laws.policies_replace_finalizers.Goals as goal

pub returns : goal.returns
returns c = policies_replace
