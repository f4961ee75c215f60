use Rattle.spec_laws.proofs.ParsedEdits.{inner_edits}
use Rattle.spec_laws.proofs.parsed_laws.inner_edits_stay_parsed.Goals as goal

pub returns : goal.returns
returns c = inner_edits
