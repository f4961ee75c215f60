use Rattle.shared_keyed_board.proofs.Remembering.{nothing_forgotten}
use Rattle.shared_keyed_board.proofs.laws.nothing_is_forgotten.Goals as goal

pub returns : goal.returns
returns g c = nothing_forgotten g.K.Named.order g.met.K.Named.ordered g.met.K.Named.apart
