use Rattle.spec_laws.proofs.ParsedEdits.{members_stay}
use Rattle.spec_laws.proofs.parsed_laws.members_stay_parsed.Goals as goal

pub returns : goal.returns
returns c = members_stay
