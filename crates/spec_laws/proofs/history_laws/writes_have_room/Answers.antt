use Rattle.spec_laws.proofs.Limits.{room}
use Rattle.spec_laws.proofs.history_laws.writes_have_room.Goals as goal

pub returns : goal.returns
returns c = room
