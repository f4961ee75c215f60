use Rattle.std.proofs.Common.{refl}
use Rattle.spec_api.proofs.OnLiterals.{on_literals}
use Rattle.spec_examples.proofs.deletion_examples.deletes_are_answered.Goals as goal

pub returns : goal.returns
unfolding on_literals
returns c = record { finalizers_keep_their_object = refl; deletes_are_conditional = refl; policies_are_finalizers = refl; removed_pods_are_answered = refl }
