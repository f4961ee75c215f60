use Rattle.spec_laws.proofs.AskedNumbers.{scaled_asks}
use Rattle.spec_laws.proofs.deployment_laws.scales_ask_for_their_number.Goals as goal

pub returns : goal.returns
returns c = scaled_asks
