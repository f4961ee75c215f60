use Rattle.std.proofs.Common.{refl}
use Rattle.spec_http.proofs.OnLiterals.{http_on_literals}
use Rattle.spec_http.proofs.head_examples.checks_come_in_order.Goals as goal

pub returns : goal.returns
unfolding http_on_literals
returns c = record {
  heads_are_written = refl;
  lengths_come_first = (refl, refl, refl, refl);
  paths_come_before_methods = (refl, refl, refl, refl, refl);
  queries_come_before_lengths = (refl, refl, refl, refl);
  lengths_are_required = (refl, refl, refl, refl, refl);
  long_bodies_come_before_types = (refl, refl, refl);
  types_are_checked = (refl, refl, refl, refl, refl);
  patches_are_taken = (_, refl, refl, refl, refl);
}
