use Rattle.std.proofs.Common.{◌-◌, map, drop, length}
use Rattle.control_desk.specs.Desks.{known, IsPassAt}
use Rattle.indexer.specs.Shifted.{shift_of}
use Rattle.manager.proofs.Rest.{IsAsFar}
use Rattle.manager.proofs.handling.Handling.handle_rest.Given as goal

abbrev pub invariant-loop-shift : goal.invariant-loop-shift
invariant-loop-shift g l =
    IsPassAt l.self.desk.now l.pass
    × IsAsFar l.self.origin l.self.looks.now (drop l.fn.handled (map shift_of l.shifts)) (drop l.handled (map shift_of l.shifts)) (known l.fn.pass) (known l.pass)

abbrev pub decreases-loop-shift : goal.decreases-loop-shift
decreases-loop-shift g l = length l.shifts - l.handled
