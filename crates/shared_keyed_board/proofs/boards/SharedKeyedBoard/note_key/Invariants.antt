use Rattle.std.specs.Prelude.{Some}
use Rattle.shared_keyed_board.specs.Attempts.{key_step}
use Rattle.shared_keyed_board.proofs.boards.SharedKeyedBoard.note_key.Given as goal

abbrev pub ghosts-note_key_as : goal.ghosts-note_key_as
ghosts-note_key_as g a = record { entry = Some (record { step = Some (key_step a._doing a._key.now); board = a.held }) }
