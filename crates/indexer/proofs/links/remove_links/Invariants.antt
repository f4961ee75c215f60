use Rattle.std.proofs.Common.{drop}
use Rattle.indexer.proofs.LinkSets.{IsRemoving}
use Rattle.indexer.proofs.links.remove_links.Given as goal

-- without those still to be removed, it is all
abbrev pub invariant-loop-link : goal.invariant-loop-link
invariant-loop-link l = IsRemoving l.links l.initial.links (drop l.link-index l.gone) l.gone
