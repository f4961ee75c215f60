use Rattle.std.proofs.Common.{◌∙◌, ap, map}
use Rattle.work_board.specs.Seen.{observation_of}
use Rattle.object_keys.specs.WorkKeys.{work_key_of}
use Rattle.control_desk.specs.Desks.{known}
use Rattle.control_desk.specs.Steps.{in_hand, requeue}
use Rattle.control_desk.proofs.Turns.{gives_step, key_requeued, follows_step}
use Rattle.control_desk.proofs.desks.ControlDesk.requeue_held.Goals as goal

pub give-requires-clause-follows : goal.give-requires-clause-follows
give-requires-clause-follows g c =
    let v = known c.args.pass.now in
    follows_step v.seen v.name g.M.EntryMade.entry (requeue (work_key_of c.args.key.now) (map observation_of c.args.undone.now) c.args.least) (ap in_hand c.requires.pass.made ∙ c.requires.mine) c.requires.entry

pub give-requires-clause-state : goal.give-requires-clause-state
give-requires-clause-state g c opening so =
    let v = known c.args.pass.now in
    gives_step v.seen v.name g.M.EntryMade.entry (requeue (work_key_of c.args.key.now) (map observation_of c.args.undone.now) c.args.least) c.args.held c.requeue.new.held opening v.opening c.requires.pass.opening c.requires.pass.state
    c.in-Ok.ensures.ok c.requires.entry so

pub returns-in-Ok-clause-key : goal.returns-in-Ok-clause-key
returns-in-Ok-clause-key g c =
    let v = known c.args.pass.now in
    ap (λ w. in_hand w.own.made) c.give.ensures.given
    ∙ key_requeued v.seen v.made v.name g.M.EntryMade.entry (work_key_of c.args.key.now) (map observation_of c.args.undone.now) c.args.least c.requires.pass.happened c.requires.pass.made c.requires.mine c.requires.entry
