use denote.Ref.{Bor}
use Rattle.std.proofs.Common.{rules, ◌≡◌, ◌∙◌, ◌∷◌, [], ◌++◌, ◌+◌, ap, sym, subst, drop, map, true, append-nil}
use Rattle.std.proofs.lemmas.List.{drop-map}
use Rattle.shared_map.specs.Parts.{parts, joined, chunk_entries, begins_from}
use Rattle.shared_map.proofs.Places.{map_at}
use Rattle.shared_map.proofs.Orders.{InOrder}
use Rattle.shared_map.proofs.Spans.{span, span_none, sorted_drop}
use Rattle.shared_map.proofs.ranges.append_chunks_between.Goals as goal

pub returns-then-begins_from : goal.returns-then-begins_from
returns-then-begins_from g c =
    let R = g.K.Ord.cmp in
    let o = g.met.K.Ord.total in
    let f = c.args.first.now in
    let p = c.args.past.now in
    let cs = c.args.chunks.now in
    let i = c.loop-chunk.chunk-index in
    let x = c.chunk-item.result in
    let made = map (λ (e : Bor (g.row.K.Denot × g.row.V.Denot)). e.now) c.loop-chunk.found.items in
    let here : drop i (parts cs) ≡ chunk_entries x ∷ drop (i + 1) (parts cs) = map_at chunk_entries cs i x (search rules) (search rules) in
    let begins : begins_from R p (chunk_entries x) ≡ true = search rules in
    let none : span R f p (joined (parts (drop i cs))) ≡ [] =
    ap (λ l. span R f p (joined l)) (sym (drop-map chunk_entries i cs) ∙ here)
    ∙ span_none o p f (chunk_entries x) (drop (i + 1) (parts cs)) (subst (λ l. InOrder o (joined l)) here (sorted_drop o p (parts cs) i c.requires)) begins in
    sym (append-nil made) ∙ ap (λ l. made ++ l) (sym none) ∙ c.loop-chunk.invariant
