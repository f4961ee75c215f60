use Rattle.spec_laws.proofs.ParsedEdits.{stored_parsed}
use Rattle.spec_laws.proofs.parsed_laws.stored_are_parsed.Goals as goal

pub returns : goal.returns
returns c = stored_parsed
