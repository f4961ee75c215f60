use Rattle.sim_rest_laws.proofs.OwedObjects.{owe_keys}
use Rattle.sim_rest_laws.proofs.owed_object_laws.objects_owe_their_keys.Goals as goal

pub returns : goal.returns
returns c = owe_keys
