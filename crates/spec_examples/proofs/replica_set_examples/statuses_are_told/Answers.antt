use Rattle.std.proofs.Common.{refl}
use Rattle.spec_api.proofs.OnLiterals.{on_literals}
use Rattle.spec_examples.proofs.replica_set_examples.statuses_are_told.Goals as goal

pub returns : goal.returns
unfolding on_literals
returns c = record { told = refl; well = refl; gone = refl; expected = (refl, refl); being_deleted = (refl, refl, refl) }
