use Rattle.std.proofs.Common.{subst}
use Rattle.std.specs.Map.{keys_of}
use Rattle.indexer.specs.Links.{Relinks}
use Rattle.indexer.proofs.links.relinked.Goals as goal

pub returns : goal.returns
returns c = subst (λ es. Relinks (keys_of c.relink.new.links) (keys_of es) c.args.gone.now c.args.more.items) c.in_ok-changed.ensures c.in_ok-relink.ensures
