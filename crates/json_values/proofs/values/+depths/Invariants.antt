use Rattle.std.proofs.Common.{◌≡◌, drop, max}
use Rattle.serde_json.specs.Data.{items_depth, members_depth}
use Rattle.serde_json.specs.View.{items_view, members_view}
use Rattle.json_values.proofs.values.+depths.Given as goal

abbrev pub invariant-items_nest_within-loop-item : goal.invariant-items_nest_within-loop-item
invariant-items_nest_within-loop-item l = max l.limit (items_depth (items_view l.items.items)) ≡ max l.limit (items_depth (items_view (drop l.item-index l.items.items)))

abbrev pub invariant-members_nest_within-loop-member : goal.invariant-members_nest_within-loop-member
invariant-members_nest_within-loop-member l = max l.limit (members_depth (members_view l.members.entries)) ≡ max l.limit (members_depth (members_view l.member-iterator))
