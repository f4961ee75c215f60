use Rattle.spec_laws.proofs.SelectorSound.{existing-sound}
use Rattle.spec_laws.proofs.SelectorTextsRead.{text-read}
use Rattle.spec_laws.proofs.selector_laws.each_value_has_a_text.Goals as goal

pub returns : goal.returns
returns c = λ d rs h. text-read rs (existing-sound d rs h)
