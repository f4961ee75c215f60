use Rattle.metadata_values.proofs.Stopwatches.{all_counted}
use Rattle.metadata_values.proofs.laws.all_is_counted.Goals as goal

pub returns : goal.returns
returns c = all_counted
