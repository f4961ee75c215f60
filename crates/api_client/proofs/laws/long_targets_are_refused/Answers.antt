use Rattle.api_client.proofs.Written.{long_targets}
use Rattle.api_client.proofs.laws.long_targets_are_refused.Goals as goal

pub returns : goal.returns
returns c = long_targets
