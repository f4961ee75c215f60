use Rattle.spec_laws.proofs.Looks.{looks_ask_for_any_number}
use Rattle.spec_laws.proofs.look_laws.looks_ask_for_any_number.Goals as goal

pub returns : goal.returns
returns c = looks_ask_for_any_number
