use Rattle.work_board.proofs.DueTold as told
use Rattle.work_board.proofs.laws.due_is_told.Goals as goal

pub returns : goal.returns
returns c = told.due_is_told
