use Rattle.std.proofs.Common.{refl}
use Rattle.revisions.proofs.SeenMaps.{seen-insert_entry, seen-remove_entry}
use Rattle.revisions.proofs.past.put_or_remove.Goals as goal

pub returns-in_ok-insert-in-Some : goal.returns-in_ok-insert-in-Some
returns-in_ok-insert-in-Some c = rw (c.in_ok-insert-in-Some.ensures.entries, seen-insert_entry, c.in-Some.is) refl

pub returns-in-None : goal.returns-in-None
returns-in-None c = rw (c.remove.ensures.entries, c.in-None.is) (seen-remove_entry c.args.state.now.entries c.args.key.now)
