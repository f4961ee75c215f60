use Rattle.std.proofs.Common.{◌≡◌, map, drop}
use Rattle.reconcile_types.specs.Commands.{command_of}
use Rattle.reconcile_turn.specs.Pods.{makes_pods}
use Rattle.reconcile_turn.proofs.pods.makes_pods.Given as goal

-- no pod is made by those so far
abbrev pub invariant-loop-command : goal.invariant-loop-command
invariant-loop-command l = makes_pods (map command_of (drop l.command-index l.commands)) ≡ makes_pods (map command_of l.commands)
