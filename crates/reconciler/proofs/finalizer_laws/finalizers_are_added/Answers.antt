use Rattle.reconciler.proofs.MergedFinalizers.{are_added}
use Rattle.reconciler.proofs.finalizer_laws.finalizers_are_added.Goals as goal

pub returns : goal.returns
returns c = are_added
