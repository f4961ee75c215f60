use denote.Ref.{Bor}
use Rattle.std.proofs.Common.{◌≡◌, ◌<◌, ◌∙◌, ◌++◌, ap, sym, subst, drop, map, false}
use Rattle.std.proofs.lemmas.List.{drop-map}
use Rattle.shared_map.specs.Parts.{parts, joined, chunk_entries, starts_after}
use Rattle.shared_map.proofs.Orders.{InOrder, all_above}
use Rattle.shared_map.proofs.Spans.{span, span_from, sorted_drop}
use Rattle.shared_map.proofs.map.SharedMap.between.Goals as goal

pub append_chunks_between-requires : goal.append_chunks_between-requires
append_chunks_between-requires g c =
    let cs = c.self.inside.chunks.items in
    let i = c.chunk_of-start.result in
    let back : c.split_at.result.1.now ≡ drop i cs = c.split_at.ensures.back ∙ ap (drop i) c.as_slice-2.ensures.value in
    subst (λ l. InOrder g.met.K.Ord.total (joined l)) (sym (ap parts back ∙ sym (drop-map chunk_entries i cs))) (sorted_drop g.met.K.Ord.total c.args.past.now (parts cs) i c.self.invariant.0)

pub returns-clause-span : goal.returns-clause-span
returns-clause-span g c =
    let R = g.K.Ord.cmp in
    let o = g.met.K.Ord.total in
    let f = c.args.first.now in
    let p = c.args.past.now in
    let cs = c.self.inside.chunks.items in
    let i = c.chunk_of-start.result in
    let back : c.split_at.result.1.now ≡ drop i cs = c.split_at.ensures.back ∙ ap (drop i) c.as_slice-2.ensures.value in
    c.in_ok-append_chunks_between.ensures
    ∙ ap (λ l. map (λ (e : Bor (g.row.K.Denot × g.row.V.Denot)). e.now) l ++ span R f p (joined (parts c.split_at.result.1.now))) c.new-found.ensures.items
    ∙ ap (λ l. span R f p (joined l)) (ap parts back ∙ sym (drop-map chunk_entries i cs))
    ∙ span_from o p f (parts cs) i (all_above o f (parts cs) i c.self.invariant.0 c.self.invariant.1 (subst (λ l. 0 < i → starts_after R f (drop i (parts l)) ≡ false) c.as_slice.ensures.value c.chunk_of-start.ensures.first))
    ∙ ap (span R f p) c.self.view_is
