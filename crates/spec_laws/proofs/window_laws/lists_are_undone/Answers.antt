use Rattle.spec_laws.proofs.ServedWindows.{list_undone}
use Rattle.spec_laws.proofs.window_laws.lists_are_undone.Goals as goal

pub returns : goal.returns
returns c = list_undone
