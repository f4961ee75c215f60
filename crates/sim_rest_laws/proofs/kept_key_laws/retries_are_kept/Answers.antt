use Rattle.sim_rest_laws.proofs.Kept.{retries_kept}
use Rattle.sim_rest_laws.proofs.kept_key_laws.retries_are_kept.Goals as goal

pub returns : goal.returns
returns c = retries_kept
