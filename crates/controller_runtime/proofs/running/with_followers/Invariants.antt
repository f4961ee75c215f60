use Rattle.std.proofs.Common.{◌≡◌, ◌≤◌, ◌+◌, All, length}
use Rattle.shared_keyed_board.specs.Passes.{IsNewAt}
use Rattle.controller_runtime.specs.Threads.{IsReady}
use Rattle.controller_runtime.proofs.running.with_followers.Given as goal

-- a new pass is left for each kind that is still to be looked at, and each thread that was made has one of the others
abbrev pub invariant-loop-kind : goal.invariant-loop-kind
invariant-loop-kind g l =
    All (IsNewAt l.ground.board.now) l.passes.items
    × (length l.left.items ≤ length l.passes.items)
    × (length l.threads.items + length l.passes.items ≡ length l.fn.made.items + length l.fn.kinds.items)
    × All (IsReady g.C.Reconciler.owes g.C.Reconciler.ends g.K.Named.says l.ground.board.now) l.threads.items

abbrev pub decreases-loop-kind : goal.decreases-loop-kind
decreases-loop-kind g l = length l.left.items
