use Rattle.desk.proofs.Coming.{can_happen}
use Rattle.desk.proofs.store_laws.histories_can_happen.Goals as goal

pub returns : goal.returns
returns g c = can_happen g.A.Asking.MayAsk
