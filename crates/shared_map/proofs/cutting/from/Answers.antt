use Rattle.std.proofs.Common.{rules, arith, not, refl, length, ◌≡◌, ◌∙◌, ◌∷◌, ◌++◌, ◌+◌, ◌<◌, ap, subst, sym, drop, true, false}
use Rattle.std.specs.Arc.{arc_value}
use Rattle.std.specs.BTreeMap.Range.{range_contains}
use Rattle.std.specs.declared.ops.Bound.TheVariants.{Included, Unbounded}
use Rattle.std.proofs.lemmas.List.Filters.{length-filter_both}
use Rattle.std.proofs.lemmas.List.{drop-map}
use Rattle.shared_map.specs.Parts.{parts, seen, joined, chunk_entries, starts_after}
use Rattle.shared_map.proofs.Cuts.{left_from, left_sorted}
use Rattle.shared_map.proofs.Located.{sorted_at}
use Rattle.shared_map.proofs.Orders.{InOrder}
use Rattle.shared_map.proofs.Places.{map_at}
use Rattle.shared_map.proofs.cutting.from.Goals as goal

pub place_in-place-requires : goal.place_in-place-requires
place_in-place-requires g c =
    let cs = c.args.chunks.now in
    let i = c.chunk_of-at.result in
    let es = c.as_slice-chunk.result.now in
    let same : chunk_entries c.index-chunks-at.result ≡ seen es = search rules in
    let here : drop i (parts cs) ≡ seen es ∷ drop (i + 1) (parts cs) = map_at chunk_entries cs i c.index-chunks-at.result (search rules) c.index-chunks-at.is ∙ ap (λ l. l ∷ drop (i + 1) (parts cs)) same in
    sorted_at g.met.K.Ord.total (parts cs) i (seen es) c.requires.ordered here

pub returns-clause-cut : goal.returns-clause-cut
returns-clause-cut g c =
    let cs = c.args.chunks.now in
    let i = c.chunk_of-at.result in
    let es = c.as_slice-chunk.result.now in
    let p = c.place_in-place.result in
    let o = g.met.K.Ord.total in
    let same : chunk_entries c.index-chunks-at.result ≡ seen es = search rules in
    let here : drop i (parts cs) ≡ seen es ∷ drop (i + 1) (parts cs) = map_at chunk_entries cs i c.index-chunks-at.result (search rules) c.index-chunks-at.is ∙ ap (λ l. l ∷ drop (i + 1) (parts cs)) same in
    ap (λ l. seen l ++ joined (parts c.split_at-2.result.1.now)) c.split_at.ensures.back ∙ ap (λ l. seen (drop p.at es) ++ joined (parts l)) c.split_at-2.ensures.back
    ∙ ap (λ l. l ++ joined (parts (drop (i + 1) cs))) (sym (drop-map arc_value p.at es))
    ∙ ap (λ l. drop p.at (seen es) ++ joined l) (sym (drop-map chunk_entries (i + 1) cs))
    ∙ left_from o c.args.first.now (parts cs) i (seen es) p.at p.found c.requires.ordered c.requires.filled (sorted_at o (parts cs) i (seen es) c.requires.ordered here)
    c.chunk_of-at.ensures.first c.chunk_of-at.ensures.next here c.place_in-place.ensures.before c.place_in-place.ensures.ahead

pub returns-clause-ordered : goal.returns-clause-ordered
returns-clause-ordered g c =
    let cs = c.args.chunks.now in
    let i = c.chunk_of-at.result in
    let es = c.as_slice-chunk.result.now in
    let p = c.place_in-place.result in
    let same : chunk_entries c.index-chunks-at.result ≡ seen es = search rules in
    let here : drop i (parts cs) ≡ seen es ∷ drop (i + 1) (parts cs) = map_at chunk_entries cs i c.index-chunks-at.result (search rules) c.index-chunks-at.is ∙ ap (λ l. l ∷ drop (i + 1) (parts cs)) same in
    let is : seen c.split_at.result.1.now ++ joined (parts c.split_at-2.result.1.now) ≡ drop p.at (seen es) ++ joined (drop (i + 1) (parts cs)) =
    ap (λ l. seen l ++ joined (parts c.split_at-2.result.1.now)) c.split_at.ensures.back ∙ ap (λ l. seen (drop p.at es) ++ joined (parts l)) c.split_at-2.ensures.back
    ∙ ap (λ l. l ++ joined (parts (drop (i + 1) cs))) (sym (drop-map arc_value p.at es))
    ∙ ap (λ l. drop p.at (seen es) ++ joined l) (sym (drop-map chunk_entries (i + 1) cs)) in
    subst (InOrder g.met.K.Ord.total) (sym is) (left_sorted g.met.K.Ord.total c.args.first.now (parts cs) i (seen es) p.at c.requires.ordered here)

pub returns-clause-few : goal.returns-clause-few
returns-clause-few g c =
    let R = g.K.Ord.cmp in
    let f = c.args.first.now in
    let L = joined (parts c.args.chunks.now) in
    omega (arith, ap length (returns-clause-cut g c), length-filter_both (λ e. range_contains R (Included f) Unbounded e.0) (λ e. not (range_contains R (Included f) Unbounded e.0)) (λ e. refl) L, c.requires.few)
