use Rattle.std.proofs.Common.{refl}
use Rattle.spec_api.proofs.OnLiterals.{on_literals}
use Rattle.spec_examples.proofs.selector_examples.texts_are_read.Goals as goal

pub returns : goal.returns
unfolding on_literals
returns c = record { all_forms_are_read = refl; empty_text_says_nothing = refl; empty_items_are_values = refl; empty_value_is_read = refl; blank_before_word_is_needed = (refl, refl); blank_after_mark_is_read = refl; qualified_keys_are_read = (refl, refl, refl, refl, refl); values_are_checked = (refl, refl, refl, refl, refl, refl, refl) }
