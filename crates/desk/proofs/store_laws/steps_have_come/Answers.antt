use Rattle.desk.proofs.Stepping.{steps_come}
use Rattle.desk.proofs.store_laws.steps_have_come.Goals as goal

pub returns : goal.returns
returns g c = steps_come g.A.Asking.MayAsk
