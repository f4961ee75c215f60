use Rattle.std.proofs.Common.{◌≡◌, ◌++◌, map, drop}
use Rattle.reconcile_types.specs.Commands.{command_of}
use Rattle.reconcile_turn.specs.Answers.{answers_of, undone_of}
use Rattle.reconcile_turn.specs.Pods.{commands_lent}
use Rattle.reconcile_turn.proofs.observing.undone.Given as goal

-- those so far and those still to come are all
abbrev pub invariant-loop-place : goal.invariant-loop-place
invariant-loop-place l =
    commands_lent l.left.items ++ undone_of (drop l.place (map command_of l.commands)) (drop l.place (answers_of l.answers)) ≡ undone_of (map command_of l.commands) (answers_of l.answers)
