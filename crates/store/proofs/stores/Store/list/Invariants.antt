use Rattle.std.proofs.Common.{◌≡◌, ◌++◌, length, map}
use Rattle.spec_api.specs.History.{viewed}
use Rattle.meta.specs.Members.{member_of}
use Rattle.selector.specs.Views.{view_of}
use Rattle.store.specs.Seen.{members_seen}
use Rattle.store.proofs.stores.Store.list.Given as goal

-- what was found and what is still to be found is all that the view asks for
abbrev pub invariant-loop-key : goal.invariant-loop-key
invariant-loop-key l =
    map member_of l.found.items ++ viewed (view_of l.view) (members_seen l.range) ≡ viewed (view_of l.view) (members_seen l.initial.range)

abbrev pub decreases-loop-key : goal.decreases-loop-key
decreases-loop-key l = length (members_seen l.range)
