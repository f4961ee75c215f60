use Rattle.std.proofs.Common.{◌≡◌, ◌++◌, map}
use Rattle.spec_api.specs.History.{viewed}
use Rattle.meta.specs.Members.{member_of}
use Rattle.selector.specs.Views.{view_of}
use Rattle.revisions.specs.Seen.{seen}
use Rattle.revisions.proofs.journal.Journal.list_at.Given as goal

abbrev pub invariant-loop-key : goal.invariant-loop-key
invariant-loop-key l = map member_of l.found.items ++ viewed (view_of l.view) (seen l.key-iterator) ≡ viewed (view_of l.view) (seen l.initial.key-iterator)
