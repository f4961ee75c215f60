use Rattle.std.proofs.Common.{◌∙◌, ap, refl}
use Rattle.spec_client_go.specs.Boards.{may_tick}
use Rattle.control_desk.specs.Desks.{known}
use Rattle.control_desk.specs.declared.states.WorkState.{WorkState}
use Rattle.control_desk.specs.Hands.{state}
use Rattle.control_desk.specs.Steps.{in_hand, tick}
use Rattle.control_desk.proofs.Turns.{follows_step, gives_step, key_stays}
use Rattle.control_desk.proofs.desks.ControlDesk.tick_held.Goals as goal

pub give-requires-clause-follows : goal.give-requires-clause-follows
give-requires-clause-follows g c =
    let v = known c.args.pass.now in
    follows_step v.seen v.name g.M.EntryMade.entry (tick c.args.milliseconds) tt c.requires.entry

pub give-requires-clause-state : goal.give-requires-clause-state
give-requires-clause-state g c opening so =
    let v = known c.args.pass.now in
    gives_step v.seen v.name g.M.EntryMade.entry (tick c.args.milliseconds) c.args.held c.tick.new.held opening v.opening c.requires.pass.opening c.requires.pass.state c.in-Ok.ensures.ok c.requires.entry so

pub returns-in-Ok-clause-key : goal.returns-in-Ok-clause-key
returns-in-Ok-clause-key g c =
    let v = known c.args.pass.now in
    ap (λ w. in_hand w.own.made) c.give.ensures.given ∙ key_stays (state v.seen) v.made v.name g.M.EntryMade.entry (tick c.args.milliseconds) (λ m. refl) c.requires.entry

pub returns-in-Ok-clause-went : goal.returns-in-Ok-clause-went
returns-in-Ok-clause-went g c = c.in-Ok.ensures.went ∙ ap (λ (s : WorkState). may_tick c.args.milliseconds s.board) c.requires.pass.state
