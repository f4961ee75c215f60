use Rattle.work_board.proofs.Later.{waits_for_its_delay}
use Rattle.work_board.proofs.laws.waits_for_its_delay.Goals as goal

pub returns : goal.returns
returns c = waits_for_its_delay
