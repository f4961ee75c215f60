use Rattle.boards.proofs.DueTold.{due_told}
use Rattle.boards.proofs.laws.due_is_told.Goals as goal

pub returns : goal.returns
returns g c = due_told g.K.Named.order g.met.K.Named.ordered g.met.K.Named.apart _
