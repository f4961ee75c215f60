use Rattle.std.proofs.Common.{refl}
use Rattle.spec_api.proofs.OnLiterals.{on_literals}
use Rattle.spec_examples.proofs.collector_examples.deletions_are_finished.Goals as goal

pub returns : goal.returns
unfolding on_literals
returns c = record { orphans = refl; blocked = refl; others = refl; left = refl }
