use Rattle.std.proofs.Common.{◌≡◌, ◌+◌, All, length}
use Rattle.shared_keyed_board.specs.Passes.{IsNewAt}
use Rattle.controller_runtime.specs.Threads.{IsReady}
use Rattle.controller_runtime.proofs.running.workers.Given as goal

-- a new pass is left for each worker that is to be made, and six more
abbrev pub invariant-loop-api : goal.invariant-loop-api
invariant-loop-api g l =
    All (IsNewAt l.ground.board.now) l.passes.items
    × (length l.passes.items ≡ length l.left.items + 6)
    × (length l.made.items + length l.left.items ≡ length l.fn.apis.items)
    × All (IsReady g.C.Reconciler.owes g.C.Reconciler.ends g.K.Named.says l.ground.board.now) l.made.items

abbrev pub decreases-loop-api : goal.decreases-loop-api
decreases-loop-api g l = length l.left.items
