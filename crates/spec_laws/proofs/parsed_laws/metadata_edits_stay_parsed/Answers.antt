use Rattle.spec_laws.proofs.ParsedEdits.{metadata_edits}
use Rattle.spec_laws.proofs.parsed_laws.metadata_edits_stay_parsed.Goals as goal

pub returns : goal.returns
returns c = metadata_edits
