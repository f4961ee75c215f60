use Rattle.controller_layers.proofs.NotedOnce.{conflicts_untold}
use Rattle.controller_layers.proofs.note_laws.conflicts_are_not_told.Goals as goal

pub returns : goal.returns
returns c = conflicts_untold
