use Rattle.keyed_board.proofs.LeftAlone.{left_alone}
use Rattle.keyed_board.proofs.board_laws.leaves_alone.Goals as goal

pub returns : goal.returns
returns g c = left_alone g.K.Named.order g.met.K.Named.ordered g.met.K.Named.apart
