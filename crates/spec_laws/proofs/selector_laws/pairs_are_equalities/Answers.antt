use Rattle.spec_laws.proofs.SelectorForms.{pair-read}
use Rattle.spec_laws.proofs.SelectorTextsRead.{equality-read}
use Rattle.spec_laws.proofs.selector_laws.pairs_are_equalities.Goals as goal

pub returns : goal.returns
returns c = λ k v h g. (equality-read k v h g, pair-read k v h g)
