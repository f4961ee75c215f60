use Rattle.std.proofs.Common.{◌-◌, ◌≤◌, length}
use Rattle.controller_runtime.proofs.telling.RunNotes.new.Given as goal

abbrev pub invariant-loop-working : goal.invariant-loop-working
invariant-loop-working g l = length l.working.items ≤ l.workers

abbrev pub decreases-loop-working : goal.decreases-loop-working
decreases-loop-working g l = l.workers - length l.working.items
