use Rattle.spec_laws.proofs.SelectorLaws.{excluded}
use Rattle.spec_laws.proofs.selector_laws.exclusions_need_no_key.Goals as goal

pub returns : goal.returns
returns c = excluded
