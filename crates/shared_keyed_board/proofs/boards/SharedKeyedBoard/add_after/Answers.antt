use Rattle.std.proofs.Common.{◌∙◌, ap}
use Rattle.keyed_board.specs.Boards.{postponed}
use Rattle.shared_keyed_board.proofs.Passing.{calls, key_after, key_same}
use Rattle.shared_keyed_board.proofs.boards.SharedKeyedBoard.add_after.Goals as goal

pub note_key-requires-clause-board : goal.note_key-requires-clause-board
note_key-requires-clause-board g c = c.in-Ok.ensures.ok ∙ ap (postponed (g.K.Named.says c.args.key.now) c.args.milliseconds) c.hold-held.ensures.board.said

pub note-requires-clause-board : goal.note-requires-clause-board
note-requires-clause-board g c = c.in-Err.ensures.err ∙ c.hold-held.ensures.board.said

pub returns-in-Ok-clause-step : goal.returns-in-Ok-clause-step
returns-in-Ok-clause-step g c = calls g.K.Named.order _ _ _ _ _ c.hold-held.ensures.looked tt c.note_key.ensures.sight

pub returns-in-Ok-clause-key : goal.returns-in-Ok-clause-key
returns-in-Ok-clause-key g c = key_after g.K.Named.order _ _ _ _ c.hold-held.ensures.looked c.note_key.ensures.sight

pub returns-in-Err-clause-step : goal.returns-in-Err-clause-step
returns-in-Err-clause-step g c = calls g.K.Named.order _ _ _ _ _ c.hold-held.ensures.looked tt c.note.ensures.sight

pub returns-in-Err-clause-key : goal.returns-in-Err-clause-key
returns-in-Err-clause-key g c = key_same g.K.Named.order _ _ _ c.hold-held.ensures.looked c.note.ensures.sight
