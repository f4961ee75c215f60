use Rattle.std.proofs.Common.{◌≡◌, ◌+◌, All, length}
use Rattle.control_desk.specs.Desks.{IsNewAt}
use Rattle.manager.proofs.running.workers.Given as goal

-- a new pass is left for each worker that is to be made, and five more
abbrev pub invariant-loop-api : goal.invariant-loop-api
invariant-loop-api g l =
    All (IsNewAt l.shared.desk.now) l.passes.items
    × (length l.passes.items ≡ length l.left.items + 5)
    × (length l.made.items + length l.left.items ≡ length l.fn.apis.items)

abbrev pub decreases-loop-api : goal.decreases-loop-api
decreases-loop-api g l = length l.left.items
