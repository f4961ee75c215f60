use Rattle.std.proofs.Common.{rules, ◌≡◌, ◌∷◌}
use Rattle.indexer.proofs.LinkSets.{adds_one}
use Rattle.indexer.proofs.links.add_links.Goals as goal

pub loop-link-preserved : goal.loop-link-preserved
loop-link-preserved c =
    let goes : c.loop-link.link-iterator.rest.items ≡ c.in-Some.link ∷ c.next.new.self.rest.items = search rules in
    adds_one c.loop-link.links c.insert.new.self c.args.links.now c.next.new.self.rest.items c.loop-link.link-iterator.rest.items c.into_iter-link-iterator.result.rest.items c.in-Some.link _ goes c.in_ok-insert.ensures.ok c.loop-link.invariant
