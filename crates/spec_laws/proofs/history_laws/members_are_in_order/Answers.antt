use Rattle.std.proofs.Common.{[]}
use Rattle.spec_api.specs.History.{up_to, entries_at}
use Rattle.spec_api.proofs.PutLaws.{IsAscending-after_all, sorted_from}
use Rattle.spec_laws.proofs.history_laws.members_are_in_order.Goals as goal

pub returns : goal.returns
returns c = λ h r. sorted_from (entries_at h r) (IsAscending-after_all [] (up_to r h) (tt {0}))
