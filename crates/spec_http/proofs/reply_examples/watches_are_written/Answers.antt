use Rattle.std.proofs.Common.{refl}
use Rattle.spec_http.proofs.OnLiterals.{http_on_literals}
use Rattle.spec_http.proofs.reply_examples.watches_are_written.Goals as goal

pub returns : goal.returns
unfolding http_on_literals
returns c = record { watch_is_written = refl; sizes_are_hexadecimal = (refl, refl) }
