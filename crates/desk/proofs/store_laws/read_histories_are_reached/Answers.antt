use Rattle.desk.proofs.Coming.{read_reached}
use Rattle.desk.proofs.store_laws.read_histories_are_reached.Goals as goal

pub returns : goal.returns
returns c = read_reached
