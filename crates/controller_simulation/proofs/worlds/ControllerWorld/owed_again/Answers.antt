use Rattle.std.proofs.Common.{refl}
use Rattle.controller_simulation.proofs.worlds.ControllerWorld.owed_again.Goals as goal

pub returns-clause-told : goal.returns-clause-told
returns-clause-told g c = (_, refl)
