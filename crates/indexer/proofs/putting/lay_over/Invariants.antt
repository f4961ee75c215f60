use Rattle.std.proofs.Common.{◌≡◌, map}
use Rattle.spec_client_go.specs.Shifts.{overlaid}
use Rattle.reflector.specs.Seen.{members_seen}
use Rattle.indexer.proofs.putting.lay_over.Given as goal

-- with what is still to be laid, it is all
abbrev pub invariant-loop-entry : goal.invariant-loop-entry
invariant-loop-entry l =
    overlaid (members_seen l.made) (members_seen (map (λ e. e.now) l.entry-iterator.rest.items)) ≡ overlaid (members_seen l.initial.made) (members_seen (map (λ e. e.now) l.initial.entry-iterator.rest.items))
