use Rattle.std.proofs.Common.{◌∙◌, ap, refl}
use Rattle.std.specs.Prelude.{map}
use Rattle.work_board.specs.Seen.{observation_of}
use Rattle.object_keys.specs.WorkKeys.{work_key_of}
use Rattle.control_desk.specs.Desks.{known}
use Rattle.control_desk.specs.Hands.{state}
use Rattle.control_desk.specs.Steps.{in_hand, observe}
use Rattle.control_desk.proofs.Turns.{follows_step, gives_step, key_stays}
use Rattle.control_desk.proofs.desks.ControlDesk.observe_held.Goals as goal

pub give-requires-clause-follows : goal.give-requires-clause-follows
give-requires-clause-follows g c =
    let v = known c.args.pass.now in
    follows_step v.seen v.name g.M.EntryMade.entry (observe c.args.kind c.args.revision (map observation_of c.args.observations.now) (map work_key_of c.args.keys.now)) tt c.requires.entry

pub give-requires-clause-state : goal.give-requires-clause-state
give-requires-clause-state g c opening so =
    let v = known c.args.pass.now in
    gives_step v.seen v.name g.M.EntryMade.entry (observe c.args.kind c.args.revision (map observation_of c.args.observations.now) (map work_key_of c.args.keys.now)) c.args.held c.observe.new.held opening v.opening c.requires.pass.opening c.requires.pass.state c.in-Ok.ensures.ok c.requires.entry so

pub returns-in-Ok-clause-key : goal.returns-in-Ok-clause-key
returns-in-Ok-clause-key g c =
    let v = known c.args.pass.now in
    ap (λ w. in_hand w.own.made) c.give.ensures.given ∙ key_stays (state v.seen) v.made v.name g.M.EntryMade.entry (observe c.args.kind c.args.revision (map observation_of c.args.observations.now) (map work_key_of c.args.keys.now)) (λ m. refl) c.requires.entry
