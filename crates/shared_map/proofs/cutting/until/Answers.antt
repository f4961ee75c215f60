use Rattle.std.proofs.Common.{rules, ◌≡◌, ◌∙◌, ◌∷◌, [], ◌++◌, ◌+◌, ◌<◌, ap, subst, sym, drop, take, zero, suc, true, false, ℕ, refl}
use Rattle.std.specs.Arc.{arc_value}
use Rattle.std.proofs.lemmas.List.{take-map, drop-map}
use Rattle.shared_map.specs.Parts.{parts, seen, joined, chunk_entries, starts_after}
use Rattle.shared_map.proofs.Cuts.{left_ahead, left_before, begun_at}
use Rattle.shared_map.proofs.Located.{sorted_at}
use Rattle.shared_map.proofs.Orders.{sorted_front, sorted_back}
use Rattle.shared_map.proofs.Places.{map_at}
use Rattle.shared_map.proofs.cutting.until.Goals as goal

pub place_in-requires : goal.place_in-requires
place_in-requires g c = sorted_front g.met.K.Ord.total (seen c.args.front.now) (joined (parts c.args.chunks.now)) c.requires.ordered

pub returns-then-start_after : goal.returns-then-start_after
returns-then-start_after g c =
    let es = c.args.front.now in
    let cs = c.args.chunks.now in
    let p = c.place_in.result in
    c.of.ensures ∙ ap (λ l. seen l ++ (joined (parts c.split_at-then-start_after.result.0.now) ++ seen c.split_at-then-start_after-2.result.0.now)) c.split_at.ensures.front
    ∙ ap (λ l. seen (take p.at es) ++ (joined (parts l) ++ seen c.split_at-then-start_after-2.result.0.now)) c.split_at-then-start_after.ensures.front
    ∙ ap (λ l. seen (take p.at es) ++ seen l) c.split_at-then-start_after-2.ensures.front
    ∙ ap (λ l. l ++ []) (sym (take-map arc_value p.at es))
    ∙ left_ahead g.met.K.Ord.total c.args.past.now (seen es) (parts cs) p.at p.found c.requires.ordered (sym c.start_after.ensures ∙ c.if-start_after.true) c.place_in.ensures.before c.place_in.ensures.ahead

pub place_in-place-requires : goal.place_in-place-requires
place_in-place-requires g c =
    let cs = c.args.chunks.now in
    let i = c.chunk_of-at.result in
    let es = c.as_slice-chunk.result.now in
    let same : chunk_entries c.index-chunks-at.result ≡ seen es = search rules in
    let here : drop i (parts cs) ≡ seen es ∷ drop (i + 1) (parts cs) = map_at chunk_entries cs i c.index-chunks-at.result (search rules) c.index-chunks-at.is ∙ ap (λ l. l ∷ drop (i + 1) (parts cs)) same in
    sorted_at g.met.K.Ord.total (parts cs) i (seen es) (sorted_back g.met.K.Ord.total (seen c.args.front.now) (joined (parts cs)) c.requires.ordered) here

pub returns : goal.returns
returns g c =
    let o = g.met.K.Ord.total in
    let k = c.args.past.now in
    let front = c.args.front.now in
    let cs = c.args.chunks.now in
    let i = c.chunk_of-at.result in
    let es = c.as_slice-chunk.result.now in
    let p = c.place_in-place.result in
    let same : chunk_entries c.index-chunks-at.result ≡ seen es = search rules in
    let here : drop i (parts cs) ≡ seen es ∷ drop (i + 1) (parts cs) = map_at chunk_entries cs i c.index-chunks-at.result (search rules) c.index-chunks-at.is ∙ ap (λ l. l ∷ drop (i + 1) (parts cs)) same in
    let begun : starts_after g.K.Ord.cmp k (parts cs) ≡ false = sym c.start_after.ensures ∙ c.if-start_after.false in
    c.of-2.ensures ∙ ap (λ l. seen front ++ (joined (parts l) ++ seen c.split_at-3.result.0.now)) c.split_at-2.ensures.front
    ∙ ap (λ l. seen front ++ (joined (parts (take i cs)) ++ seen l)) c.split_at-3.ensures.front
    ∙ ap (λ l. seen front ++ (joined l ++ seen (take p.at es))) (sym (take-map chunk_entries i cs))
    ∙ ap (λ l. seen front ++ (joined (take i (parts cs)) ++ l)) (sym (take-map arc_value p.at es))
    ∙ left_before o k (seen front) (parts cs) i (seen es) p.at p.found c.requires.ordered c.requires.filled
    (sorted_at o (parts cs) i (seen es) (sorted_back o (seen front) (joined (parts cs)) c.requires.ordered) here)
    (begun_at g.K.Ord.cmp k (parts cs) i begun c.chunk_of-at.ensures.first) c.chunk_of-at.ensures.next here c.place_in-place.ensures.before c.place_in-place.ensures.ahead
