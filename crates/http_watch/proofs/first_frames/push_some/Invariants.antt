use Rattle.std.proofs.Common.{length}
use Rattle.http_watch.proofs.Pieces.{ArePushed, with_next}
use Rattle.http_watch.proofs.first_frames.push_some.Given as goal

-- the frames so far and those that are left are all
abbrev pub invariant-loop-next : goal.invariant-loop-next
invariant-loop-next l = ArePushed l.objects (with_next l.next l.members) l.initial.text.items l.text.items

abbrev pub decreases-loop-next : goal.decreases-loop-next
decreases-loop-next l = length (with_next l.next l.members)
