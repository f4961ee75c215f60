use Rattle.std.proofs.Common.{◌∙◌, ap}
use Rattle.spec_client_go.specs.WorkQueues.{handed}
use Rattle.control_desk.specs.Desks.{known}
use Rattle.control_desk.specs.Hands.{state}
use Rattle.control_desk.specs.Steps.{in_hand}
use Rattle.control_desk.specs.Taken.{key_taken}
use Rattle.control_desk.proofs.Turns.{gives_take, key_is_taken}
use Rattle.control_desk.proofs.desks.ControlDesk.take_key_held.Goals as goal

pub give-requires-clause-state : goal.give-requires-clause-state
give-requires-clause-state g c opening so =
    let v = known c.args.pass.now in
    gives_take v.seen v.name g.M.EntryMade.entry c.args.held c.take_key.new.held opening v.opening c.requires.pass.opening c.requires.pass.state c.in-Ok.ensures.ok c.requires.entry so

pub returns-in-Ok-clause-key : goal.returns-in-Ok-clause-key
returns-in-Ok-clause-key g c =
    let v = known c.args.pass.now in
    ap (λ w. in_hand w.own.made) c.give.ensures.given
    ∙ key_is_taken (state v.seen) v.made v.name g.M.EntryMade.entry (key_taken c.in-Ok.key) c.requires.free (c.in-Ok.ensures.key.0 ∙ ap (λ s. handed s.board.work) c.requires.pass.state) c.requires.entry
