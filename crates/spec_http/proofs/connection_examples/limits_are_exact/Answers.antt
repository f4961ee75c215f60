use Rattle.spec_http.proofs.LimitsWorked.{limits}
use Rattle.spec_http.proofs.connection_examples.limits_are_exact.Goals as goal

pub returns : goal.returns
returns c = limits
