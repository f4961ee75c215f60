use Rattle.indexer.proofs.LinkSets.{IsAdding}
use Rattle.indexer.proofs.links.add_links.Given as goal

-- with those still to be added, it is all
abbrev pub invariant-loop-link : goal.invariant-loop-link
invariant-loop-link l = IsAdding l.links l.initial.links l.link-iterator.rest.items l.initial.link-iterator.rest.items
