use Rattle.std.proofs.Common.{refl}
use Rattle.spec_api.proofs.OnLiterals.{on_literals}
use Rattle.spec_examples.proofs.cut_examples.cuts_drop_parts.Goals as goal

pub returns : goal.returns
unfolding on_literals
returns c = record { is_held = refl; is_dropped = refl; asks_again = refl; is_whole_again = refl; is_joined_without_a_cut = refl; second_alone = refl }
