use Rattle.std.proofs.Common.{◌≡◌, length}
use Rattle.spec_api.specs.SelectorTexts.{requirement, parts}
use Rattle.spec_api.specs.Selectors.{each_read}
use Rattle.selector.specs.Reading.{onto_read}
use Rattle.selector.specs.Seen.{requirements_of}
use Rattle.selector.proofs.texts.requirements.Given as goal

abbrev pub invariant-loop-part : goal.invariant-loop-part
invariant-loop-part l = each_read requirement (parts l.text) ≡ onto_read (requirements_of l.found.items) (each_read requirement (parts l.rest))

abbrev pub decreases-loop-part : goal.decreases-loop-part
decreases-loop-part l = length l.rest
