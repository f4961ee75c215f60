use Rattle.selector.specs.Views.{view_of}
use Rattle.api.proofs.Owned.{begun, not_begun}
use Rattle.api.proofs.alone.initial.Goals as goal

pub returns-in-Ok : goal.returns-in-Ok
returns-in-Ok c =
    begun c.args.server.now (view_of c.args.view.now) c.args.least c.in-Ok.initial c.in-Ok.ensures.events c.in-Ok.ensures.members c.in-Ok.ensures.revision

pub returns-in-Err : goal.returns-in-Err
returns-in-Err c = not_begun c.args.server.now (view_of c.args.view.now) c.args.least c.in-Err.fault c.in-Err.ensures.events
