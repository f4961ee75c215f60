use Rattle.std.proofs.Common.{refl}
use Rattle.spec_api.proofs.OnLiterals.{on_literals}
use Rattle.spec_examples.proofs.request_examples.creates_are_answered.Goals as goal

pub returns : goal.returns
unfolding on_literals
returns c = record { first_create = refl; create_reads_back = refl; second_create_exists = refl; server_sets_metadata = refl; last_revision_is_kept = (refl, λ h. cc) }
