use Rattle.std.proofs.Common.{rules, ◌≡◌, ◌∙◌, ◌∷◌, ◌+◌, ◌<◌, ap, sym, subst, drop, true, false, Some, length}
use Rattle.std.specs.Arc.{arc_value}
use Rattle.std.specs.Map.{lookup}
use Rattle.std.specs.BTreeMap.{is_at}
use Rattle.shared_map.specs.Parts.{parts, seen, chunk_entries, starts_after, BeginsAt}
use Rattle.shared_map.proofs.Places.{map_at}
use Rattle.shared_map.proofs.Between.{found_place}
use Rattle.shared_map.proofs.Orders.{found_nowhere}
use Rattle.shared_map.proofs.Located.{found_at, sorted_at}
use Rattle.shared_map.proofs.map.SharedMap.get.Goals as goal

pub place_in-place-requires : goal.place_in-place-requires
place_in-place-requires g c =
    let cs = c.self.inside.chunks.items in
    let i = c.chunk_of.result in
    let es = c.as_slice-chunk.result.now in
    let same : chunk_entries c.index.result.now ≡ seen es = search rules in
    let here : drop i (parts cs) ≡ seen es ∷ drop (i + 1) (parts cs) = map_at chunk_entries cs i c.index.result.now (search rules) (search rules) ∙ ap (λ l. l ∷ drop (i + 1) (parts cs)) same in
    sorted_at g.met.K.Ord.total (parts cs) i (seen es) c.self.invariant.0 here

pub returns-then-place : goal.returns-then-place
returns-then-place g c =
    let R = g.K.Ord.cmp in
    let k = c.args.key.now in
    let cs = c.self.inside.chunks.items in
    let i = c.chunk_of.result in
    let es = c.as_slice-chunk.result.now in
    let p = c.place_in-place.result in
    let x = c.index-chunk-place.result in
    let same : chunk_entries c.index.result.now ≡ seen es = search rules in
    let here : drop i (parts cs) ≡ seen es ∷ drop (i + 1) (parts cs) = map_at chunk_entries cs i c.index.result.now (search rules) (search rules) ∙ ap (λ l. l ∷ drop (i + 1) (parts cs)) same in
    let within : p.at < length es = search rules in
    ap (λ y. Some y.1) c.deref-then-place.ensures
    ∙ found_place R k (seen es) p.at (arc_value x) (drop (p.at + 1) (seen es)) c.place_in-place.ensures.before (subst (λ b. BeginsAt R k b (drop p.at (seen es))) c.if-place.true c.place_in-place.ensures.ahead)
    (map_at arc_value es p.at x within c.index-chunk-place.is)
    ∙ sym (found_at g.met.K.Ord.total k (parts cs) i (seen es) c.self.invariant.0 c.self.invariant.1
    (subst (λ l. 0 < i → starts_after R k (drop i (parts l)) ≡ false) c.as_slice.ensures.value c.chunk_of.ensures.first)
    (subst (λ l. starts_after R k (drop (i + 1) (parts l)) ≡ true) c.as_slice.ensures.value c.chunk_of.ensures.next) here)
    ∙ ap (lookup (is_at (R k))) c.self.view_is

pub returns-else-place : goal.returns-else-place
returns-else-place g c =
    let R = g.K.Ord.cmp in
    let k = c.args.key.now in
    let cs = c.self.inside.chunks.items in
    let i = c.chunk_of.result in
    let es = c.as_slice-chunk.result.now in
    let p = c.place_in-place.result in
    let same : chunk_entries c.index.result.now ≡ seen es = search rules in
    let here : drop i (parts cs) ≡ seen es ∷ drop (i + 1) (parts cs) = map_at chunk_entries cs i c.index.result.now (search rules) (search rules) ∙ ap (λ l. l ∷ drop (i + 1) (parts cs)) same in
    let first = subst (λ l. 0 < i → starts_after R k (drop i (parts l)) ≡ false) c.as_slice.ensures.value c.chunk_of.ensures.first in
    let next = subst (λ l. starts_after R k (drop (i + 1) (parts l)) ≡ true) c.as_slice.ensures.value c.chunk_of.ensures.next in
    sym (found_nowhere g.met.K.Ord.total k (seen es) p.at (sorted_at g.met.K.Ord.total (parts cs) i (seen es) c.self.invariant.0 here)
    c.place_in-place.ensures.before (subst (λ b. BeginsAt R k b (drop p.at (seen es))) c.if-place.false c.place_in-place.ensures.ahead))
    ∙ sym (found_at g.met.K.Ord.total k (parts cs) i (seen es) c.self.invariant.0 c.self.invariant.1 first next here)
    ∙ ap (lookup (is_at (R k))) c.self.view_is
