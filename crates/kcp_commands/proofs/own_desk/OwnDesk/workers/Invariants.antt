use Rattle.std.proofs.Common.{◌≡◌, ◌-◌, ◌+◌, ◌≤◌, All, length}
use Rattle.desk.specs.Desks.{IsNewAt}
use Rattle.kcp_commands.proofs.own_desk.OwnDesk.workers.Given as goal

-- of the passes as many are gone as ways to ask are made
abbrev pub invariant-loop-passes : goal.invariant-loop-passes
invariant-loop-passes g l =
    All (IsNewAt l.self.desk.now) l.passes.items
    × (length l.made.items ≤ l.workers)
    × (length l.passes.items + length l.made.items ≡ length l.fn.passes.items)

abbrev pub decreases-loop-passes : goal.decreases-loop-passes
decreases-loop-passes g l = l.workers - length l.made.items
