use Rattle.std.proofs.Common.{refl}
use Rattle.base64.proofs.OnLiterals.{base64_on_literals}
use Rattle.spec_api.proofs.OnLiterals.{on_literals}
use Rattle.spec_examples.proofs.collection_examples.queries_are_read.Goals as goal

pub returns : goal.returns
unfolding on_literals base64_on_literals
returns c = record { versions_are_matched = (refl, refl, refl, refl, refl, refl, refl, refl, refl, refl); tokens_go_on = (refl, refl, refl, refl, refl); watches_are_asked = (refl, refl, refl, refl, refl, refl, refl, refl) }
