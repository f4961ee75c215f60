use Rattle.std.proofs.Common.{◌≡◌, drop, map}
use Rattle.meta.specs.Labels.{label_of, label_text}
use Rattle.meta.proofs.labels.label_text.Given as goal

-- the label is looked for in what is left
abbrev pub invariant-loop-label : goal.invariant-loop-label
invariant-loop-label l = label_text l.name (map label_of l.labels) ≡ label_text l.name (map label_of (drop l.label-index l.labels))
