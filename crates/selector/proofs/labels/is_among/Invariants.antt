use Rattle.std.proofs.Common.{◌≡◌, drop}
use Rattle.spec_api.specs.Selectors.{is_among}
use Rattle.selector.specs.Seen.{texts_of}
use Rattle.selector.proofs.labels.is_among.Given as goal

abbrev pub invariant-loop-value : goal.invariant-loop-value
invariant-loop-value l = is_among (texts_of l.values.items) l.text ≡ is_among (texts_of (drop l.value-index l.values.items)) l.text
