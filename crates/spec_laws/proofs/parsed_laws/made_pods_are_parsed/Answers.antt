use Rattle.spec_laws.proofs.ParsedEdits.{pods_made}
use Rattle.spec_laws.proofs.parsed_laws.made_pods_are_parsed.Goals as goal

pub returns : goal.returns
returns c = pods_made
