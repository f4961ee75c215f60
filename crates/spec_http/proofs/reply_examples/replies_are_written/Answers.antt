use Rattle.std.proofs.Common.{refl}
use Rattle.spec_http.proofs.OnLiterals.{http_on_literals}
use Rattle.spec_http.proofs.reply_examples.replies_are_written.Goals as goal

pub returns : goal.returns
unfolding http_on_literals
returns c = record {
  empty_list_is_written = (refl, refl);
  refusal_is_written = refl;
  bodies_end = (refl, refl, refl);
  patch_is_read = refl;
  phrases_are_canonical = refl;
}
