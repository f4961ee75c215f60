use Rattle.std.proofs.Common.{◌≡◌, None}
use Rattle.control_desk.specs.Desks.{IsPassAt, key_in_hand}
use Rattle.sharing_tests.proofs.working.work.Given as goal

abbrev pub invariant-loop-number : goal.invariant-loop-number
invariant-loop-number g l = IsPassAt l.desk l.pass × (key_in_hand l.pass ≡ None)

abbrev pub invariant-loop : goal.invariant-loop
invariant-loop g l = IsPassAt l.desk l.pass × (key_in_hand l.pass ≡ None)
