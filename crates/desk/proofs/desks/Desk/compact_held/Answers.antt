use Rattle.baton.specs.Marks.{entries}
use Rattle.object_keys.specs.Faults.{refusal_of}
use Rattle.desk.specs.Desks.{known}
use Rattle.desk.proofs.Compacted.{compaction_follows, gives_compaction, compaction_done, compaction_refused}
use Rattle.desk.proofs.desks.Desk.compact_held.Goals as goal

pub give-requires-clause-follows : goal.give-requires-clause-follows
give-requires-clause-follows g c =
    let v = known c.args.pass.now in
    compaction_follows g.A.Asking.MayAsk c.args.self.now.window v.seen v.name g.M.EntryMade.entry c.args.held c.compact.new.held c.args.revision c.requires.pass.3 c.in-Ok.ensures.ok c.requires.entry

pub give-requires-clause-state : goal.give-requires-clause-state
give-requires-clause-state g c opening so =
    let v = known c.args.pass.now in
    gives_compaction c.args.self.now.window v.seen v.name g.M.EntryMade.entry c.args.held c.compact.new.held opening v.opening c.args.revision c.requires.pass.1 c.requires.pass.3 c.in-Ok.ensures.ok c.requires.entry so

pub returns-in-Ok-clause-answer : goal.returns-in-Ok-clause-answer
returns-in-Ok-clause-answer g c =
    (compaction_done c.args.self.now.window (entries (known c.args.pass.now).seen) c.args.held c.compact.new.held c.args.revision c.requires.pass.3 c.in-Ok.ensures.ok).0

pub returns-in-Err-clause-answer : goal.returns-in-Err-clause-answer
returns-in-Err-clause-answer g c =
    compaction_refused c.args.self.now.window (entries (known c.args.pass.now).seen) c.args.held c.args.revision (refusal_of c.in-Err.fault) c.requires.pass.3 c.in-Err.ensures.refused
