use Rattle.std.proofs.Common.{◌≡◌, [], map, drop}
use Rattle.meta.specs.Writes.{write_of}
use Rattle.spec_api.specs.History.{after_all}
use Rattle.revisions.specs.Seen.{seen}
use Rattle.revisions.proofs.past.state_at.Given as goal

-- the writes that are left give what all of them give
abbrev pub invariant-loop-write : goal.invariant-loop-write
invariant-loop-write l = after_all (seen l.state.entries) (map write_of (drop l.write-index l.write-items)) ≡ after_all [] (map write_of l.write-items)
