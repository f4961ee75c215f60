use Rattle.spec_laws.proofs.Floors.{remembered_served}
use Rattle.spec_laws.proofs.floor_laws.remembered_are_served.Goals as goal

pub returns : goal.returns
returns c = remembered_served
