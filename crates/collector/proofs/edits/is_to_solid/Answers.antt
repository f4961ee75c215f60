use Rattle.std.proofs.Common.{ap, ◌∙◌}
use Rattle.reconcile_types.specs.Hands.{reads_of}
use Rattle.spec_reconcile.specs.Standings.{standing, is_solid}
use Rattle.collector.proofs.edits.is_to_solid.Goals as goal

pub returns : goal.returns
returns c = c.is_solid.ensures ∙ ap is_solid (c.in_ok-found.ensures ∙ ap (standing (reads_of c.args.reads.now) c.args.namespace.now) c.owner-owner.ensures)
