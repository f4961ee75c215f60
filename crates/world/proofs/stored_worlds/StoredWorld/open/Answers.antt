use Rattle.world.proofs.Taken.{stands_begun}
use Rattle.world.proofs.stored_worlds.StoredWorld.open.Goals as goal

pub invariant_of-result : goal.invariant_of-result
invariant_of-result c = stands_begun c.args.config.window c.args.config.workers c.args.config.initial c.in_ok-open.field-0 c.in_ok-new.field-0 c.in_ok-open.ensures c.in_ok-new.ensures
