use Rattle.shared_keyed_board.proofs.Standing.{hands_apart}
use Rattle.shared_keyed_board.proofs.laws.hands_are_apart.Goals as goal

pub returns : goal.returns
returns g c = hands_apart g.K.Named.order g.met.K.Named.ordered g.met.K.Named.apart
