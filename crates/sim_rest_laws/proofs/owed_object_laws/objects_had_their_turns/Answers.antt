use Rattle.sim_rest_laws.proofs.OwedObjects.{had_turns}
use Rattle.sim_rest_laws.proofs.owed_object_laws.objects_had_their_turns.Goals as goal

pub returns : goal.returns
returns c = had_turns
