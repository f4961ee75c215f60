use Rattle.std.proofs.Common.{◌≡◌, ℕ, ◌+◌, ◌≤◌, length, drop, filter}
use Rattle.spec_sim.specs.Turns.{creates_pod}
use Rattle.reconcile_turn.specs.Pods.{commands_lent}
use Rattle.reconcile_turn.proofs.pods.creations.Given as goal

-- what is counted so far and what is still to be are all, and so far at most each
pub record Counted (n i more all : ℕ) : Type 0 where
  pub sum : n + more ≡ all
  pub small : n ≤ i

abbrev pub invariant-loop-command : goal.invariant-loop-command
invariant-loop-command l =
    Counted l.count l.command-index (length (filter creates_pod (commands_lent (drop l.command-index l.commands))))
    (length (filter creates_pod (commands_lent l.commands)))
