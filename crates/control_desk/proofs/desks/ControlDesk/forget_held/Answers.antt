use Rattle.std.proofs.Common.{◌∙◌, ap, refl}
use Rattle.object_keys.specs.Keys.{key_of}
use Rattle.control_desk.specs.Desks.{known}
use Rattle.control_desk.specs.Hands.{state}
use Rattle.control_desk.specs.Steps.{in_hand, forget}
use Rattle.control_desk.proofs.Turns.{follows_step, gives_step, key_stays}
use Rattle.control_desk.proofs.desks.ControlDesk.forget_held.Goals as goal

pub give-requires-clause-follows : goal.give-requires-clause-follows
give-requires-clause-follows g c =
    let v = known c.args.pass.now in
    follows_step v.seen v.name g.M.EntryMade.entry (forget (key_of c.args.key.now)) tt c.requires.entry

pub give-requires-clause-state : goal.give-requires-clause-state
give-requires-clause-state g c opening so =
    let v = known c.args.pass.now in
    gives_step v.seen v.name g.M.EntryMade.entry (forget (key_of c.args.key.now)) c.args.held c.forget.new.held opening v.opening c.requires.pass.opening c.requires.pass.state c.forget.ensures c.requires.entry so

pub returns-clause-key : goal.returns-clause-key
returns-clause-key g c =
    let v = known c.args.pass.now in
    ap (λ w. in_hand w.own.made) c.give.ensures.given ∙ key_stays (state v.seen) v.made v.name g.M.EntryMade.entry (forget (key_of c.args.key.now)) (λ m. refl) c.requires.entry
