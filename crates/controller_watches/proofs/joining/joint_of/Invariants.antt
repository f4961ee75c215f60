use Rattle.std.proofs.Common.{◌≡◌, ◌++◌, map, drop}
use Rattle.controller_watches.specs.Watched.{asked_by}
use Rattle.controller_watches.specs.Joint.{joint_of}
use Rattle.controller_watches.proofs.joining.joint_of.Given as goal

-- what is made so far and what is to be made of the kinds that are left is all
abbrev pub invariant-loop-kind : goal.invariant-loop-kind
invariant-loop-kind l = map asked_by l.made.items ++ joint_of (drop l.kind-index l.kinds) l.watches ≡ joint_of l.kinds l.watches
