use Rattle.shared_keyed_board.proofs.Passing.{calls_happen}
use Rattle.shared_keyed_board.proofs.laws.calls_can_happen.Goals as goal

pub returns : goal.returns
returns g c = calls_happen g.K.Named.order
