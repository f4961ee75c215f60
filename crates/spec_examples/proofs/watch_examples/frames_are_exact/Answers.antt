use Rattle.std.proofs.Common.{refl}
use Rattle.spec_api.proofs.OnLiterals.{on_literals}
use Rattle.spec_examples.proofs.watch_examples.frames_are_exact.Goals as goal

pub returns : goal.returns
unfolding on_literals
returns c = record { bookmarks_are_said = (refl, refl, refl); errors_are_said = refl; frames_are_read = refl; others_are_refused = (refl, refl, refl) }
