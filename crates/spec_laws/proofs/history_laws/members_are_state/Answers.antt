use Rattle.std.proofs.Common.{[]}
use Rattle.spec_api.specs.History.{up_to}
use Rattle.spec_api.proofs.PutLaws.{found-after_all}
use Rattle.spec_laws.proofs.history_laws.members_are_state.Goals as goal

pub returns : goal.returns
returns c = λ h r k. found-after_all k [] (up_to r h) (tt {0})
