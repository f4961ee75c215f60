use Rattle.spec_api.specs.Metadata.{owner}
use Rattle.reconcile_types.specs.Hands.{reads_of}
use Rattle.spec_reconcile.specs.Standings.{standing, is_solid}
use Rattle.collector.proofs.Grown.{picked-all}
use Rattle.collector.proofs.edits.solid_ones.Goals as goal

pub returns : goal.returns
returns c = picked-all (λ d. is_solid (standing (reads_of c.args.reads.now) c.args.namespace.now (owner d))) c.args.references.now c.loop-reference.reference-index c.loop-reference.picked.items c.loop-reference-test.false c.loop-reference.invariant
