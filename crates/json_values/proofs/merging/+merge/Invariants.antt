use Rattle.std.proofs.Common.{◌≡◌}
use Rattle.serde_json.specs.View.{members_view}
use Rattle.spec_api.specs.Values.{merged_members}
use Rattle.json_values.proofs.merging.+merge.Given as goal

-- what is left of the changes gives what all of them give
abbrev pub invariant-merge_members-loop-name : goal.invariant-merge_members-loop-name
invariant-merge_members-loop-name l =
    merged_members (members_view l.members.entries) (members_view l.name-iterator) ≡ merged_members (members_view l.fn.members.entries) (members_view l.fn.changes.entries)
