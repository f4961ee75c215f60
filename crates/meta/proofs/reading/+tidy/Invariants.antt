use Rattle.std.proofs.Common.{◌≡◌, List, ◌++◌, map}
use Rattle.serde_json.specs.View.{view, members_view}
use Rattle.serde_json.specs.declared.value.Value.{Value}
use Rattle.serde_json.proofs.Views.{Entry}
use Rattle.spec_api.specs.Reading.{tidied, tidied_members}
use Rattle.meta.proofs.reading.+tidy.Given as goal

abbrev pub invariant-tidy_items-loop-item : goal.invariant-tidy_items-loop-item
invariant-tidy_items-loop-item l =
    (done : List Value) × (l.fn.items.items ≡ done ++ l.item-iterator.rest.items) × (map view l.kept.items ≡ map (tidied l.shape) (map view done))

abbrev pub invariant-tidy_members-loop-key : goal.invariant-tidy_members-loop-key
invariant-tidy_members-loop-key l =
    (done : List Entry) × (l.fn.members.entries ≡ done ++ l.key-iterator) × (members_view l.kept.entries ≡ tidied_members l.schema (members_view done))
