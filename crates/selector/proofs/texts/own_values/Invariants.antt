use Rattle.std.proofs.Common.{◌≡◌, length}
use Rattle.std.specs.List.{slice_split}
use Rattle.spec_api.specs.SelectorTexts.{value_in, is_comma}
use Rattle.spec_api.specs.Selectors.{each_read}
use Rattle.selector.specs.Reading.{onto_read}
use Rattle.selector.specs.Seen.{texts_of}
use Rattle.selector.proofs.texts.own_values.Given as goal

abbrev pub invariant-loop-value : goal.invariant-loop-value
invariant-loop-value l = each_read value_in (slice_split is_comma l.list) ≡ onto_read (texts_of l.values.items) (each_read value_in (slice_split is_comma l.rest))

abbrev pub decreases-loop-value : goal.decreases-loop-value
decreases-loop-value l = length l.rest
