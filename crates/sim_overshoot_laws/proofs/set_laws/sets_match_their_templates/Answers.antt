use Rattle.sim_overshoot_laws.proofs.StoredSets.{sets_match_their_templates}
use Rattle.sim_overshoot_laws.proofs.set_laws.sets_match_their_templates.Goals as goal

pub returns : goal.returns
returns c = sets_match_their_templates
