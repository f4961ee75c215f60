use Rattle.std.proofs.Common.{◌∙◌, ap, sym, subst, ◌++◌}
use Rattle.std.specs.Prelude.{IfSome}
use Rattle.crossbeam_queue.specs.Passes.{view}
use Rattle.baton.specs.Marks.{entries, marked}
use Rattle.baton.specs.Passes.{given}
use Rattle.shared_keyed_board.specs.Attempts.{step_done}
use Rattle.shared_keyed_board.specs.Entries.{latest, told, Follows}
use Rattle.shared_keyed_board.specs.Passes.{sight_of}
use Rattle.shared_keyed_board.proofs.Told.{latest_is}
use Rattle.shared_keyed_board.proofs.Attempting.{always_may}
use Rattle.shared_keyed_board.proofs.Passing.{given_entry}
use Rattle.shared_keyed_board.proofs.boards.SharedKeyedBoard.note_as.Goals as goal

pub give-requires-clause-follows : goal.give-requires-clause-follows
give-requires-clause-follows g c =
    let v = view c.args.pass.now in
    subst (λ o. IfSome o (λ e. Follows g.K.Named.order g.K.Named.says v.own.seen v.own.name e)) (sym c.requires.entry) (record { may = always_may g.K.Named.order g.K.Named.says (told g.K.Named.says v.own.seen) v.own.name c.args._doing c.args._keys.now; board = c.requires.board })

pub give-requires-clause-state : goal.give-requires-clause-state
give-requires-clause-state g c opening is =
    let v = view c.args.pass.now in
    sym
    (ap (λ o. latest opening (entries (v.own.seen ++ marked v.own.name o))) c.requires.entry
    ∙ latest_is g.K.Named.says opening v.own.seen v.own.name (record { step = step_done c.args._doing c.args._keys.now; board = c.args.held }))

pub returns-clause-sight : goal.returns-clause-sight
returns-clause-sight g c =
    let v = view c.args.pass.now in
    ap (λ z. sight_of g.K.Named.says z.own) c.give.ensures.given
    ∙ ap (λ o. sight_of g.K.Named.says (given o v).own) c.requires.entry
    ∙ given_entry g.K.Named.order g.K.Named.says v (record { step = step_done c.args._doing c.args._keys.now; board = c.args.held })
