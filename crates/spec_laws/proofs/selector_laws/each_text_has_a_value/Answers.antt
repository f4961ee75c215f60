use Rattle.spec_laws.proofs.SelectorForms.{value-read}
use Rattle.spec_laws.proofs.SelectorSound.{said-sound}
use Rattle.spec_laws.proofs.selector_laws.each_text_has_a_value.Goals as goal

pub returns : goal.returns
returns c = λ t rs h. value-read rs (said-sound t rs h)
