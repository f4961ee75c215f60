use Rattle.spec_laws.proofs.CheckLaws.{stored_pass}
use Rattle.spec_laws.proofs.check_laws.stored_pass_again.Goals as goal

pub returns : goal.returns
returns c = stored_pass
