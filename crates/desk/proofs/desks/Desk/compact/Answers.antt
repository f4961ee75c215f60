use Rattle.desk.proofs.Stepping.{steps}
use Rattle.desk.proofs.desks.Desk.compact.Goals as goal

pub returns-clause-compact : goal.returns-clause-compact
returns-clause-compact g c = steps g.A.Asking.MayAsk _ _ _ _ _ c.take-held.ensures.taken c.compact_held.ensures.answer c.compact_held.ensures.known
