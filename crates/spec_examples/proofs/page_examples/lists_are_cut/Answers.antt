use Rattle.std.proofs.Common.{refl}
use Rattle.base64.proofs.OnLiterals.{base64_on_literals}
use Rattle.spec_api.proofs.OnLiterals.{on_literals}
use Rattle.spec_examples.proofs.page_examples.lists_are_cut.Goals as goal

pub returns : goal.returns
unfolding on_literals base64_on_literals
returns c = record { five_by_two = (refl, refl, refl, refl, refl, refl, refl, refl, refl); places_need_no_object = (refl, refl); tokens_are_written = refl }
