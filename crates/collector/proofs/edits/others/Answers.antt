use Rattle.std.proofs.Common.{not}
use Rattle.spec_api.specs.Metadata.{owner}
use Rattle.spec_reconcile.specs.Standings.{is_to}
use Rattle.collector.proofs.Grown.{picked-all}
use Rattle.collector.proofs.edits.others.Goals as goal

pub returns : goal.returns
returns c = picked-all (λ d. not (is_to c.args.object.now.value (owner d))) c.args.references.now c.loop-reference.reference-index c.loop-reference.picked.items c.loop-reference-test.false c.loop-reference.invariant
