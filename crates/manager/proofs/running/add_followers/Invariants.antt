use Rattle.std.proofs.Common.{◌≡◌, ◌+◌, All, length}
use Rattle.control_desk.specs.Desks.{IsNewAt}
use Rattle.manager.proofs.running.add_followers.Given as goal

-- a new pass is left for each kind that is still to be followed, and one more
abbrev pub invariant-loop-kind : goal.invariant-loop-kind
invariant-loop-kind g l =
    All (IsNewAt l.shared.desk.now) l.passes.items
    × (length l.passes.items ≡ length l.left.items + 1)
    × (length l.all.items + length l.left.items ≡ length l.fn.made.items + length l.fn.kinds.items)

abbrev pub decreases-loop-kind : goal.decreases-loop-kind
decreases-loop-kind g l = length l.left.items
