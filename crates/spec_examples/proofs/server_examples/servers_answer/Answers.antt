use Rattle.std.proofs.Common.{refl}
use Rattle.spec_api.proofs.OnLiterals.{on_literals}
use Rattle.spec_examples.proofs.server_examples.servers_answer.Goals as goal

pub returns : goal.returns
unfolding on_literals
returns c = record { lists_are_answered = (refl, refl, refl, refl, refl, refl, refl, refl, refl); watches_are_given = (refl, refl, refl, refl, refl, refl, refl, refl, refl, refl); compactions_move_floors = (refl, refl, refl, refl, refl, refl) }
