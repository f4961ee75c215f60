use Rattle.std.proofs.Common.{◌∙◌, ap}
use Rattle.keyed_board.specs.Boards.{shut_off}
use Rattle.shared_keyed_board.proofs.Passing.{calls, key_after}
use Rattle.shared_keyed_board.proofs.boards.SharedKeyedBoard.shut_down.Goals as goal

pub note-requires-clause-board : goal.note-requires-clause-board
note-requires-clause-board g c = c.shut_down.ensures ∙ ap shut_off c.hold-held.ensures.board.said

pub returns-clause-step : goal.returns-clause-step
returns-clause-step g c = calls g.K.Named.order _ _ _ _ _ c.hold-held.ensures.looked tt c.note.ensures.sight

pub returns-clause-key : goal.returns-clause-key
returns-clause-key g c = key_after g.K.Named.order _ _ _ _ c.hold-held.ensures.looked c.note.ensures.sight
