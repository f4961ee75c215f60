use Rattle.std.proofs.Common.{map, refl, ap, ◌∙◌}
use Rattle.serde_json.specs.View.{view, items_of}
use Rattle.spec_reconcile.specs.MetadataEdits.{unblocked}
use Rattle.collector.proofs.Grown.{grown-end, unblocked-all}
use Rattle.collector.proofs.edits.all_unblocked.Goals as goal

pub returns : goal.returns
returns c =
    ap items_of (grown-end (λ vs. map unblocked (map view vs)) refl c.args.references.now c.loop-reference.reference-index (map view c.loop-reference.changed.items) (map unblocked (map view c.args.references.now)) c.loop-reference-test.false c.loop-reference.invariant)
    ∙ unblocked-all (map view c.args.references.now)
