use Rattle.std.proofs.Common.{◌≡◌}
use Rattle.serde_json.specs.View.{members_view}
use Rattle.spec_api.specs.Checks.{are_labels}
use Rattle.validate.proofs.labels.all_are_labels.Given as goal

abbrev pub invariant-loop-key : goal.invariant-loop-key
invariant-loop-key l = are_labels (members_view l.members.entries) ≡ are_labels (members_view l.key-iterator)
