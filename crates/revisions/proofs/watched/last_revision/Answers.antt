use Rattle.std.proofs.Common.{sym}
use Rattle.revisions.proofs.LastEvents.{last_event}
use Rattle.revisions.proofs.watched.last_revision.Goals as goal

pub returns-in-Some : goal.returns-in-Some
returns-in-Some c = sym (last_event c.args.after c.args.events.now c.in-Some.event.now (sym c.in-Some.ensures.value))
