use Rattle.sim_rest_laws.proofs.Kept.{nothing_dirty}
use Rattle.sim_rest_laws.proofs.kept_key_laws.nothing_is_dirty_at_rest.Goals as goal

pub returns : goal.returns
returns c = nothing_dirty
