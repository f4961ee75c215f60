use Rattle.std.proofs.Common.{refl}
use Rattle.spec_api.proofs.OnLiterals.{on_literals}
use Rattle.spec_examples.proofs.watch_examples.watches_are_asked.Goals as goal

pub returns : goal.returns
unfolding on_literals
returns c = record { queries_are_read = (refl, refl, refl, refl, refl, refl); queries_are_refused = refl }
