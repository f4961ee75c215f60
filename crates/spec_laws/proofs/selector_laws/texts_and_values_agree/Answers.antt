use Rattle.spec_laws.proofs.SelectorForms.{value-read}
use Rattle.spec_laws.proofs.SelectorTextsRead.{text-read}
use Rattle.spec_laws.proofs.selector_laws.texts_and_values_agree.Goals as goal

pub returns : goal.returns
returns c = λ rs h. (text-read rs h, value-read rs h)
