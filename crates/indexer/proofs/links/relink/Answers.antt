use Rattle.std.specs.Map.{keys_of}
use Rattle.indexer.proofs.LinkSets.{relinks}
use Rattle.indexer.proofs.links.relink.Goals as goal

pub returns : goal.returns
returns c =
    relinks (keys_of c.add_links.new.links) (keys_of c.remove_links.new.links) (keys_of c.args.links.now) c.args.gone.now c.args.more.items c.in_ok-remove_links.ensures c.in_ok-add_links.ensures
