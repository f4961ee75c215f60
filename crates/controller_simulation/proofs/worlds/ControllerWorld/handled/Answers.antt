use Rattle.std.proofs.Common.{inr, refl}
use Rattle.controller_simulation.proofs.worlds.ControllerWorld.handled.Goals as goal

pub returns-in-Some-clause-told : goal.returns-in-Some-clause-told
returns-in-Some-clause-told g c = inr (_, refl)
