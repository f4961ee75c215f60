use Rattle.spec_laws.proofs.AskedNumbers.{made_asks}
use Rattle.spec_laws.proofs.deployment_laws.made_sets_ask_for_their_number.Goals as goal

pub returns : goal.returns
returns c = made_asks
