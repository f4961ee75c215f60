use Rattle.spec_laws.proofs.Runs.{only_add}
use Rattle.spec_laws.proofs.history_laws.runs_only_add.Goals as goal

pub returns : goal.returns
returns c = only_add
