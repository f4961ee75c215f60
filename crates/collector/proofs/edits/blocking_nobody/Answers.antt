use Rattle.std.proofs.Common.{ap, ◌∙◌}
use Rattle.serde_json.specs.View.{items_view}
use Rattle.serde_json.specs.Written.{items_have_float}
use Rattle.collector.proofs.Grown.{all_unblocked-no_float}
use Rattle.collector.proofs.edits.blocking_nobody.Goals as goal

pub with_list-requires : goal.with_list-requires
with_list-requires c = record { no_float = ap items_have_float c.in_ok-changed.ensures ∙ all_unblocked-no_float (items_view c.references.result.now) c.references.ensures.no_float }
