use Rattle.spec_laws.proofs.SelectorLaws.{included}
use Rattle.spec_laws.proofs.selector_laws.inclusions_need_the_key.Goals as goal

pub returns : goal.returns
returns c = included
