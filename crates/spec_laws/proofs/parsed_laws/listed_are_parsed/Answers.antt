use Rattle.spec_laws.proofs.ParsedEdits.{listed_parsed}
use Rattle.spec_laws.proofs.parsed_laws.listed_are_parsed.Goals as goal

pub returns : goal.returns
returns c = listed_parsed
