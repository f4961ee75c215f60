use Rattle.std.proofs.Common.{◌∙◌, sym}
use Rattle.controller_layers.proofs.AnyMapped.{any_mapped}
use Rattle.indexer.specs.Shifted.{shift_of}
use Rattle.selector.specs.Views.{view_of}
use Rattle.controller_layers.specs.Within.{touches}
use Rattle.controller_layers.proofs.scoped.touches_any.Goals as goal

pub returns : goal.returns
returns c = c.any_is_touched.ensures ∙ sym (any_mapped (touches (shift_of c.args.change.now)) view_of c.args.views.now)
