use Rattle.std.proofs.Common.{◌≡◌, ◌++◌, map, drop, filter_map, string_bytes}
use Rattle.spec_sim.specs.Turns.{pod_deleted}
use Rattle.reconcile_turn.specs.Pods.{commands_lent}
use Rattle.reconcile_turn.proofs.pods.deletions.Given as goal

-- those so far and those still to come are all
abbrev pub invariant-loop-command : goal.invariant-loop-command
invariant-loop-command l =
    map string_bytes l.uids.items ++ filter_map pod_deleted (commands_lent (drop l.command-index l.commands)) ≡ filter_map pod_deleted (commands_lent l.commands)
