use Rattle.api_client.proofs.Written.{requests_asked}
use Rattle.api_client.proofs.laws.requests_are_asked.Goals as goal

pub returns : goal.returns
returns c = requests_asked
