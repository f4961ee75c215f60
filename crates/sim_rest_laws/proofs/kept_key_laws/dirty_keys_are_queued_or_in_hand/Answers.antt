use Rattle.sim_rest_laws.proofs.Kept.{dirty_somewhere}
use Rattle.sim_rest_laws.proofs.kept_key_laws.dirty_keys_are_queued_or_in_hand.Goals as goal

pub returns : goal.returns
returns c = dirty_somewhere
