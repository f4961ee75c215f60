use Rattle.std.specs.Prelude.{Some}
use Rattle.shared_keyed_board.specs.Attempts.{step_done}
use Rattle.shared_keyed_board.proofs.boards.SharedKeyedBoard.note.Given as goal

abbrev pub ghosts-note_as : goal.ghosts-note_as
ghosts-note_as g a = record { entry = Some (record { step = step_done a._doing a._keys.now; board = a.held }) }
