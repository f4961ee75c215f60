use Rattle.std.proofs.Common.{◌∙◌, ap}
use Rattle.object_keys.specs.WorkKeys.{work_key_of}
use Rattle.control_desk.specs.Desks.{known}
use Rattle.control_desk.specs.Steps.{in_hand, finish}
use Rattle.control_desk.proofs.Turns.{gives_step, key_finished, follows_step}
use Rattle.control_desk.proofs.desks.ControlDesk.done_held.Goals as goal

pub give-requires-clause-follows : goal.give-requires-clause-follows
give-requires-clause-follows g c =
    let v = known c.args.pass.now in
    follows_step v.seen v.name g.M.EntryMade.entry (finish (work_key_of c.args.key.now)) (ap in_hand c.requires.pass.made ∙ c.requires.mine) c.requires.entry

pub give-requires-clause-state : goal.give-requires-clause-state
give-requires-clause-state g c opening so =
    let v = known c.args.pass.now in
    gives_step v.seen v.name g.M.EntryMade.entry (finish (work_key_of c.args.key.now)) c.args.held c.done.new.held opening v.opening c.requires.pass.opening c.requires.pass.state c.done.ensures c.requires.entry so

pub returns-clause-key : goal.returns-clause-key
returns-clause-key g c =
    let v = known c.args.pass.now in
    ap (λ w. in_hand w.own.made) c.give.ensures.given
    ∙ key_finished v.seen v.made v.name g.M.EntryMade.entry (work_key_of c.args.key.now) c.requires.pass.happened c.requires.pass.made c.requires.mine c.requires.entry
