use Rattle.desk.proofs.Stepping.{steps}
use Rattle.desk.proofs.desks.Desk.serve.Goals as goal

pub returns-clause-call : goal.returns-clause-call
returns-clause-call g c = steps g.A.Asking.MayAsk _ _ _ _ _ c.take-held.ensures.taken c.serve_held.ensures.reply c.serve_held.ensures.known
