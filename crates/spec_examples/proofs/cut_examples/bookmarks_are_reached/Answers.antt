use Rattle.std.proofs.Common.{refl}
use Rattle.spec_api.proofs.OnLiterals.{on_literals}
use Rattle.spec_examples.proofs.cut_examples.bookmarks_are_reached.Goals as goal

pub returns : goal.returns
unfolding on_literals
returns c = record { equal = refl; later = refl; lower = refl; other_kind = refl; no_revision = refl }
