use Rattle.world.proofs.Headlines.{headline}
use Rattle.world.proofs.Stood.{stands_made}
use Rattle.world.proofs.worlds.World.open.Goals as goal

pub invariant_of-result : goal.invariant_of-result
invariant_of-result c = stands_made c.args.config.window c.args.config.workers c.args.config.initial c.in_ok-open.field-0 c.begun.result.taken c.in_ok-open.ensures c.begun.ensures

pub returns-clause-headline : goal.returns-clause-headline
returns-clause-headline c =
    headline (record { stored = c.in_ok-open.field-0; trace = c.begun.result.taken })
    (stands_made c.args.config.window c.args.config.workers c.args.config.initial c.in_ok-open.field-0 c.begun.result.taken c.in_ok-open.ensures c.begun.ensures)
