use Rattle.std.proofs.Common.{refl}
use Rattle.spec_api.proofs.OnLiterals.{on_literals}
use Rattle.spec_examples.proofs.cut_examples.expiries_ask_for_lists.Goals as goal

pub returns : goal.returns
unfolding on_literals
returns c = record { is_expired = refl; asks_for_a_list = refl; gives_nothing_then = refl; another_code = refl; no_code = refl; frames_before_count = refl }
