use Rattle.std.proofs.Common.{rules, ◌≡◌, ◌∷◌, ◌+◌, drop}
use Rattle.std.proofs.lemmas.List.{drop_more}
use Rattle.indexer.proofs.LinkSets.{removes_one}
use Rattle.indexer.proofs.links.remove_links.Goals as goal

pub loop-link-preserved : goal.loop-link-preserved
loop-link-preserved c =
    let rest = drop (c.loop-link.link-index + 1) c.args.gone.now in
    let goes : drop c.loop-link.link-index c.args.gone.now ≡ c.link-item.result ∷ rest = search (rules, drop_more c.args.gone.now c.loop-link.link-index c.link-item.result) in
    removes_one c.loop-link.links c.remove.new.self c.args.links.now rest (drop c.loop-link.link-index c.args.gone.now) c.args.gone.now c.link-item.result goes c.remove.ensures.ordered c.in_ok-remove.ensures.ok c.loop-link.invariant
