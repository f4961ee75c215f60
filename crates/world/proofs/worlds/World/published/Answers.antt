use Rattle.std.proofs.Common.{subst}
use Rattle.world.specs.Standing.{Stands}
use Rattle.world.proofs.Headlines.{headline}
use Rattle.world.proofs.worlds.World.published.Goals as goal

pub returns-clause-headline : goal.returns-clause-headline
returns-clause-headline c = headline c.args.self.now (subst Stands c.self.view_is c.self.invariant)
