use Rattle.request_parts.proofs.Wholes.{checks_first}
use Rattle.request_parts.proofs.laws.checks_come_first.Goals as goal

pub returns : goal.returns
returns c = checks_first
