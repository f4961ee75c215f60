use Rattle.std.proofs.Common.{◌-◌, ◌≤◌, length}
use Rattle.kcp_commands.proofs.controlling.Server.workers.Given as goal

abbrev pub invariant-loop-made : goal.invariant-loop-made
invariant-loop-made g l = length l.made.items ≤ l.workers

abbrev pub decreases-loop-made : goal.decreases-loop-made
decreases-loop-made g l = l.workers - length l.made.items
