use Rattle.keyed_board.proofs.WorkBoards as boards
use Rattle.keyed_board.proofs.board_laws.are_work_boards.Goals as goal

pub returns : goal.returns
returns c = boards.are_work_boards
