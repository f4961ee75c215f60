use Rattle.std.proofs.Common.{◌∙◌, ap, sym, append-nil}
use Rattle.crossbeam_queue.specs.Passes.{view}
use Rattle.baton.specs.Marks.{entries}
use Rattle.shared_keyed_board.specs.Entries.{latest}
use Rattle.shared_keyed_board.specs.Passes.{sight_of}
use Rattle.shared_keyed_board.proofs.Passing.{given_nothing}
use Rattle.shared_keyed_board.proofs.boards.SharedKeyedBoard.give_back.Goals as goal

pub give-requires-clause-state : goal.give-requires-clause-state
give-requires-clause-state g c opening is = c.requires.board.latest opening is ∙ ap (λ h. latest opening (entries h)) (sym (append-nil (view c.args.pass.now).own.seen))

pub returns-clause-sight : goal.returns-clause-sight
returns-clause-sight g c = ap (λ z. sight_of g.K.Named.says z.own) c.give.ensures.given ∙ given_nothing g.K.Named.order g.K.Named.says (view c.args.pass.now)
