use Rattle.std.proofs.Common.{[]}
use Rattle.spec_api.specs.Keys.{key_cmp}
use Rattle.spec_api.specs.History.{up_to, entries_at, list, in_view}
use Rattle.spec_api.proofs.PutLaws.{IsAscending-after_all, IsAscending-filter, sorted_from}
use Rattle.spec_laws.proofs.history_laws.lists_are_in_order.Goals as goal

pub returns : goal.returns
returns c = λ h v r. sorted_from (list h v r) (IsAscending-filter key_cmp (λ m. in_view v m.0 m.1) (entries_at h r) (IsAscending-after_all [] (up_to r h) (tt {0})))
