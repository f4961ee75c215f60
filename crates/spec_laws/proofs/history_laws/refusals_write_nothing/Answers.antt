use Rattle.spec_laws.proofs.VerbLaws.{refusals}
use Rattle.spec_laws.proofs.history_laws.refusals_write_nothing.Goals as goal

pub returns : goal.returns
returns c = refusals
