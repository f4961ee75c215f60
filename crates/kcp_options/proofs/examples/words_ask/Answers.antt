use Rattle.std.proofs.Common.{refl}
use Rattle.kcp_options.proofs.examples.words_ask.Goals as goal

pub returns : goal.returns
returns c = record {
  commands_are_named = (refl, refl, refl, refl, refl, refl);
  options_are_said = (refl, refl, refl);
  options_stand_once = (refl, refl, refl, refl, refl, refl);
  numbers_have_bounds = (refl, refl, refl, refl, refl, refl, refl, refl, refl);
  numbers_are_digits = (refl, refl, refl, refl, refl, refl);
  servers_are_named = (refl, refl, refl, refl, refl, refl, refl, refl, refl, refl, refl);
  workers_are_counted = (refl, refl, refl, refl, refl, refl);
  usages_are_asked = (refl, refl, refl, refl, refl, refl, refl);
  mistakes_are_named = (refl, refl, refl, refl, refl, refl, refl, refl, refl);
}
