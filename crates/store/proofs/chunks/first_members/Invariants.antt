use Rattle.std.proofs.Common.{◌≡◌, ◌≤◌, ◌<◌, ◌++◌, length, map}
use Rattle.spec_api.specs.History.{viewed}
use Rattle.meta.specs.Members.{member_of}
use Rattle.selector.specs.Views.{view_of}
use Rattle.store.specs.Seen.{members_seen}
use Rattle.store.proofs.chunks.first_members.Given as goal

-- what was taken and what is left is all that the view asks for
abbrev pub invariant-loop-taken : goal.invariant-loop-taken
invariant-loop-taken l = record {
  split : map member_of l.taken.items ++ viewed (view_of l.view) (members_seen l.range) ≡ viewed (view_of l.view) (members_seen l.fn.range);
  few : 0 < l.limit → length l.taken.items ≤ l.limit;
  all : viewed (view_of l.view) (members_seen l.fn.range) ≡ members_seen l.fn.range → viewed (view_of l.view) (members_seen l.range) ≡ members_seen l.range;
}

abbrev pub decreases-loop-taken : goal.decreases-loop-taken
decreases-loop-taken l = length (viewed (view_of l.view) (members_seen l.range))
