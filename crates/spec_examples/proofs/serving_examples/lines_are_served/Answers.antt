use Rattle.std.proofs.Common.{refl}
use Rattle.base64.proofs.OnLiterals.{base64_on_literals}
use Rattle.spec_api.proofs.OnLiterals.{on_literals}
use Rattle.spec_examples.proofs.serving_examples.lines_are_served.Goals as goal

pub returns : goal.returns
unfolding on_literals base64_on_literals
returns c = record { pages_go_on = refl; bookmarks_are_shown = refl; windows_forget = refl }
