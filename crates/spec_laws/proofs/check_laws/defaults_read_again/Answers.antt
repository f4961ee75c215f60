use Rattle.spec_laws.proofs.DefaultsRead.{defaults_read}
use Rattle.spec_laws.proofs.check_laws.defaults_read_again.Goals as goal

pub returns : goal.returns
returns c = defaults_read
