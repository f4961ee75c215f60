use Rattle.std.proofs.Common.{ap}
use Rattle.shared_map.specs.Parts.{parts}
use Rattle.shared_map.proofs.Orders.{sound_none}
use Rattle.shared_map.proofs.map.SharedMap.new.Goals as goal

pub invariant_of-result : goal.invariant_of-result
invariant_of-result g c = sound_none g.met.K.Ord.total (parts c.new.result.items) (ap parts c.new.ensures.items)
