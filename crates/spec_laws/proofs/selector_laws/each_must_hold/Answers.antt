use Rattle.spec_laws.proofs.SelectorLaws.{each-holds}
use Rattle.spec_laws.proofs.selector_laws.each_must_hold.Goals as goal

pub returns : goal.returns
returns c = each-holds
