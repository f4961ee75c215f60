use Rattle.std.proofs.Common.{◌≡◌, ◌++◌, map}
use Rattle.serde_json.specs.View.{members_view}
use Rattle.meta.specs.Labels.{labels_in, label_of}
use Rattle.meta.proofs.labels.labels_in.Given as goal

-- the labels so far, then those that are left, are all
abbrev pub invariant-loop-name : goal.invariant-loop-name
invariant-loop-name l = map label_of l.labels.items ++ labels_in (members_view l.name-iterator) ≡ labels_in (members_view l.members.entries)
