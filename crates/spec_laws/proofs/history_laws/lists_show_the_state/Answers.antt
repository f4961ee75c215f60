use Rattle.std.proofs.Common.{[], ap, ◌∙◌}
use Rattle.spec_api.specs.History.{up_to, entries_at, seen}
use Rattle.spec_api.proofs.PutLaws.{IsAscending-after_all, found-after_all, found-viewed}
use Rattle.spec_laws.proofs.history_laws.lists_show_the_state.Goals as goal

pub returns : goal.returns
returns c = λ h v r k. found-viewed v k (entries_at h r) (IsAscending-after_all [] (up_to r h) (tt {0})) ∙ ap (seen v k) (found-after_all k [] (up_to r h) (tt {0}))
