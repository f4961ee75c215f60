use Rattle.reconciler.proofs.MergedFinalizers.{are_removed}
use Rattle.reconciler.proofs.finalizer_laws.finalizers_are_removed.Goals as goal

pub returns : goal.returns
returns c = are_removed
