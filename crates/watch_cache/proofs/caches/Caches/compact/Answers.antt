use Rattle.std.proofs.Common.{rules, ◌≡◌, ◌<◌, length, get_or, set, ap, ◌∙◌}
use Rattle.std.proofs.lemmas.List.Edits.{map_over_more}
use Rattle.spec_server.specs.Recorded.{compacted_to}
use Rattle.watch_cache.proofs.caches.Caches.compact.Goals as goal

pub loop-place-preserved : goal.loop-place-preserved
loop-place-preserved c =
    let first = c.self.inside.caches.items in
    let now = c.loop-place.self-inside.caches.items in
    let w = c.index_mut.result.now in
    let within : c.loop-place.place < length first = search rules in
    let found : w ≡ get_or now c.loop-place.place w = search rules in
    ap (set now c.loop-place.place) c.compact.ensures ∙ map_over_more (λ w. compacted_to w c.args.revision) first now c.loop-place.place w within c.loop-place.invariant found
