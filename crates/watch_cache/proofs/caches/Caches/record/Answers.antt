use Rattle.std.proofs.Common.{rules, ◌≡◌, ◌==◌, set, get_or, cond, sym, ap, ◌∙◌}
use Rattle.spec_api.specs.Kinds.{rank}
use Rattle.spec_server.specs.Codes.{window_at}
use Rattle.spec_server.specs.Recorded.{recorded}
use Rattle.watch_cache.specs.Changes.{change_seen}
use Rattle.watch_cache.proofs.KindWindows.{at_place, at_set}
use Rattle.watch_cache.proofs.caches.Caches.record.Goals as goal

pub returns : goal.returns
returns c =
    let ws = c.self.inside.caches.items in
    let k = c.args.change.key.kind in
    let e = change_seen c.args.change in
    let w = c.index_mut.result.now in
    let found : w ≡ get_or ws (rank k) w = search rules in
    let old : window_at ws k ≡ w = at_place ws k w c.self.invariant found in
    let new : c.record.new.self ≡ recorded (window_at ws k) e = c.record.ensures.window ∙ ap (λ w. recorded w e) (sym old) in
    (λ i. λ j. window_at (set ws (c.rank-place.ensures i) (new i)) j)
    ∙ (λ i. λ j. at_set ws k j (recorded (window_at ws k) e) c.self.invariant i)
    ∙ (λ i. λ j. cond (rank j == rank k) (recorded (c.self.view_is i k) e) (c.self.view_is i j))
