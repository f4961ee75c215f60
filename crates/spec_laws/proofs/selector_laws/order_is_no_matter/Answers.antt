use Rattle.spec_laws.proofs.SelectorLaws.{meets-alike}
use Rattle.spec_laws.proofs.selector_laws.order_is_no_matter.Goals as goal

pub returns : goal.returns
returns c = λ t d rs ss l e f same. meets-alike rs ss l same
