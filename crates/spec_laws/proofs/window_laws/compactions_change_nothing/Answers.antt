use Rattle.spec_laws.proofs.ServedWindows.{compaction_changes_nothing}
use Rattle.spec_laws.proofs.window_laws.compactions_change_nothing.Goals as goal

pub returns : goal.returns
returns c = compaction_changes_nothing
