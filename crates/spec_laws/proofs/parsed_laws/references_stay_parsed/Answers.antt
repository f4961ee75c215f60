use Rattle.spec_laws.proofs.EditedReferences.{stay_parsed}
use Rattle.spec_laws.proofs.parsed_laws.references_stay_parsed.Goals as goal

pub returns : goal.returns
returns c = stay_parsed
