use Rattle.std.proofs.Common.{refl}
use Rattle.spec_api.proofs.OnLiterals.{on_literals}
use Rattle.spec_examples.proofs.selector_examples.texts_are_refused.Goals as goal

pub returns : goal.returns
unfolding on_literals
returns c = record { blanks_are_refused = refl; empty_requirement_is_refused = (refl, refl, refl); empty_list_is_refused = (refl, refl); open_parenthesis_is_refused = (refl, refl, refl); split_operator_is_refused = (refl, refl, refl) }
