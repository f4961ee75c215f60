use Rattle.std.proofs.Common.{◌≡◌, length}
use Rattle.spec_api.specs.History.{viewed}
use Rattle.selector.specs.Views.{view_of}
use Rattle.store.specs.Seen.{members_seen}
use Rattle.store.proofs.chunks.next_member.Given as goal

-- nothing was passed over that the view asks for
abbrev pub invariant-loop-key : goal.invariant-loop-key
invariant-loop-key l = record {
  left : viewed (view_of l.view) (members_seen l.range) ≡ viewed (view_of l.view) (members_seen l.fn.range);
  all : viewed (view_of l.view) (members_seen l.fn.range) ≡ members_seen l.fn.range → viewed (view_of l.view) (members_seen l.range) ≡ members_seen l.range;
}

abbrev pub decreases-loop-key : goal.decreases-loop-key
decreases-loop-key l = length l.range
