use Rattle.std.proofs.Common.{refl}
use Rattle.spec_api.proofs.OnLiterals.{on_literals}
use Rattle.spec_examples.proofs.verb_examples.writes_are_stored.Goals as goal

pub returns : goal.returns
unfolding on_literals
returns c = record { deployments_are_filled_in = refl; nothing_new_is_not_written = refl; patches_take_out_nulls = refl; generations_count_specs = refl }
