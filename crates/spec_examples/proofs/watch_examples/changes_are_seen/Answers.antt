use Rattle.std.proofs.Common.{refl}
use Rattle.spec_api.proofs.OnLiterals.{on_literals}
use Rattle.spec_examples.proofs.watch_examples.changes_are_seen.Goals as goal

pub returns : goal.returns
unfolding on_literals
returns c = record { writes_are_seen = refl; views_are_kept = (refl, refl); watches_begin = (refl, refl); selections_are_left = refl; watches_are_replayed = refl }
