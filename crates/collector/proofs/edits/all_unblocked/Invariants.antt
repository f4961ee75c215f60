use Rattle.std.proofs.Common.{◌≡◌, ◌++◌, drop, map}
use Rattle.serde_json.specs.View.{view}
use Rattle.spec_reconcile.specs.MetadataEdits.{unblocked}
use Rattle.collector.proofs.edits.all_unblocked.Given as goal

-- those changed and those still to be changed are all
abbrev pub invariant-loop-reference : goal.invariant-loop-reference
invariant-loop-reference l = map view l.changed.items ++ map unblocked (map view (drop l.reference-index l.references)) ≡ map unblocked (map view l.references)
