use Rattle.api_client.proofs.Collected.{collections_asked}
use Rattle.api_client.proofs.laws.collections_are_asked.Goals as goal

pub returns : goal.returns
returns c = collections_asked
