use Rattle.sim_rest_laws.proofs.ShiftRuns.{changes_lead}
use Rattle.sim_rest_laws.proofs.shift_run_laws.published_changes_lead.Goals as goal

pub returns : goal.returns
returns c = changes_lead
