use Rattle.controller_layers.proofs.NotedOnce.{noted_once}
use Rattle.controller_layers.proofs.note_laws.told_once.Goals as goal

pub returns : goal.returns
returns c = noted_once
