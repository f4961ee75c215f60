use Rattle.std.proofs.Common.{◌≡◌}
use Rattle.std.specs.Prelude.{None}
use Rattle.shared_keyed_board.specs.Calls.{IsLater}
use Rattle.shared_keyed_board.specs.Passes.{sight, key_in_hand, IsPassAt}
use Rattle.shared_keyed_board.proofs.boards.SharedKeyedBoard.take.Given as goal

-- no key is in hand, and no step was made
abbrev pub invariant-loop : goal.invariant-loop
invariant-loop g l =
    IsPassAt l.self l.pass × (key_in_hand g.K.Named.says l.pass ≡ None) × IsLater (sight g.K.Named.says l.fn.pass) (sight g.K.Named.says l.pass)
    × (goal.iterator-loop g).can_next l.iterator' × (goal.iterator-loop g).is_finite l.iterator'
