use Rattle.std.proofs.Common.{subst}
use Rattle.api.specs.Responding.{IsMade}
use Rattle.api.proofs.delivering.deliver.Goals as goal

pub returns-in-List : goal.returns-in-List
returns-in-List g c = absurd (subst IsMade c.in-List.is c.requires)
