use Rattle.std.proofs.Common.{refl}
use Rattle.spec_api.proofs.OnLiterals.{on_literals}
use Rattle.spec_examples.proofs.request_examples.lists_are_answered.Goals as goal

pub returns : goal.returns
unfolding on_literals
returns c = record { empty_list = refl; lists_are_ordered = refl }
