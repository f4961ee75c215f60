use Rattle.std.proofs.Common.{string_bytes}
use Rattle.server.proofs.AddedItems.{AreAdded}
use Rattle.server.proofs.items.push_some.Given as goal

-- the items so far and those that are left are all
abbrev pub invariant-loop-left : goal.invariant-loop-left
invariant-loop-left l = AreAdded l.objects l.members l.fn.later l.later l.fn.left l.left (string_bytes l.initial.text) (string_bytes l.text)

abbrev pub decreases-loop-left : goal.decreases-loop-left
decreases-loop-left l = l.left
