use Rattle.std.proofs.Common.{◌≡◌, length}
use Rattle.controller_runtime.specs.Kinds.{apis_named, with_named}
use Rattle.controller_runtime.proofs.followed.apis_of.Given as goal

-- those that are left, over those that were put, are all
abbrev pub invariant-loop-last : goal.invariant-loop-last
invariant-loop-last g l = with_named l.apis l.left.items ≡ apis_named l.fn.followed.items

abbrev pub decreases-loop-last : goal.decreases-loop-last
decreases-loop-last g l = length l.left.items
