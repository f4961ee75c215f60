use Rattle.spec_laws.proofs.VerbLaws.{replaced}
use Rattle.spec_laws.proofs.history_laws.named_versions_are_replaced.Goals as goal

pub returns : goal.returns
returns c = replaced
