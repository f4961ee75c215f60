use Rattle.std.proofs.Common.{refl}
use Rattle.desk.proofs.Stepping.{restated}
use Rattle.desk.proofs.desks.Desk.call.Goals as goal

pub returns-in-Ok-clause-call : goal.returns-in-Ok-clause-call
returns-in-Ok-clause-call g c = let step = c.in-Ok.ensures.call in restated g.A.Asking.MayAsk _ _ _ _ _ _ step refl step.says.0

pub returns-in-Err-clause-call : goal.returns-in-Err-clause-call
returns-in-Err-clause-call g c = let step = c.in-Err.ensures.call in restated g.A.Asking.MayAsk _ _ _ _ _ _ step refl step.says
