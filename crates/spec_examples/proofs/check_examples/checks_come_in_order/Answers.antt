use Rattle.std.proofs.Common.{refl}
use Rattle.spec_api.proofs.OnLiterals.{on_literals}
use Rattle.spec_examples.proofs.check_examples.checks_come_in_order.Goals as goal

pub returns : goal.returns
unfolding on_literals
returns c = record { defaults_are_filled_in = (refl, refl, refl, refl, refl, refl, refl); first_faults_are_said = (refl, refl, refl, refl, refl, refl); updates_are_checked = (refl, refl, refl, refl) }
