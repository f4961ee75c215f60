use Rattle.spec_laws.proofs.Runs.{windows_forget}
use Rattle.spec_laws.proofs.history_laws.windows_only_forget.Goals as goal

pub returns : goal.returns
returns c = windows_forget
