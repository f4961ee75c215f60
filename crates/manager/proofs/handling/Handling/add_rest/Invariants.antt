use Rattle.std.proofs.Common.{◌-◌, map, drop, length}
use Rattle.control_desk.specs.Desks.{known, IsPassAt}
use Rattle.object_keys.specs.WorkKeys.{work_key_of}
use Rattle.manager.proofs.Rest.{IsAddedSoFar}
use Rattle.manager.proofs.handling.Handling.add_rest.Given as goal

abbrev pub invariant-loop-added : goal.invariant-loop-added
invariant-loop-added g l =
    IsPassAt l.self.desk.now l.pass
    × IsAddedSoFar l.self.origin (drop l.fn.added (map work_key_of l.keys)) (drop l.added (map work_key_of l.keys)) (known l.fn.pass) (known l.pass)

abbrev pub decreases-loop-added : goal.decreases-loop-added
decreases-loop-added g l = length l.keys - l.added
