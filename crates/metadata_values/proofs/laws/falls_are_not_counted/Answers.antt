use Rattle.metadata_values.proofs.Stopwatches.{falls_not_counted}
use Rattle.metadata_values.proofs.laws.falls_are_not_counted.Goals as goal

pub returns : goal.returns
returns c = falls_not_counted
