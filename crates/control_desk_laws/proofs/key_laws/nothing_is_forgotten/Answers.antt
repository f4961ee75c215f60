use Rattle.control_desk_laws.proofs.Remembering.{nothing_forgotten}
use Rattle.control_desk_laws.proofs.key_laws.nothing_is_forgotten.Goals as goal

pub returns : goal.returns
returns c = nothing_forgotten
