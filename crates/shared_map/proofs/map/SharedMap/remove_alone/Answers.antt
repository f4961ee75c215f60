use Rattle.std.proofs.Common.{rules, arith, ◌≡◌, ◌∙◌, ◌∷◌, ◌++◌, ◌+◌, ◌-◌, ◌<◌, ◌≤◌, ap, sym, subst, take, drop, length, refl, true, false}
use Rattle.std.specs.Arc.{arc_value}
use Rattle.std.specs.Map.{remove_entry}
use Rattle.std.specs.BTreeMap.{is_at}
use Rattle.std.proofs.lemmas.List.{length-append, length-map}
use Rattle.shared_map.specs.Parts.{parts, seen, joined, chunk_entries, starts_after}
use Rattle.shared_map.proofs.Places.{map_at}
use Rattle.shared_map.proofs.Joined.{length_without, first_of}
use Rattle.shared_map.proofs.Orders.{InOrder, remove_sorted}
use Rattle.shared_map.proofs.Located.{removed_at, sorted_at, length_at}
use Rattle.shared_map.proofs.map.SharedMap.remove_alone.Goals as goal

pub place_in-place-requires : goal.place_in-place-requires
place_in-place-requires g c =
    let cs = c.self.inside.chunks.items in
    let i = c.chunk_of-at.result in
    let es = c.as_slice-2.result.now in
    let same : chunk_entries c.index.result.now ≡ seen es = search rules in
    let here : drop i (parts cs) ≡ seen es ∷ drop (i + 1) (parts cs) = map_at chunk_entries cs i c.index.result.now (search rules) (search rules) ∙ ap (λ l. l ∷ drop (i + 1) (parts cs)) same in
    sorted_at g.met.K.Ord.total (parts cs) i (seen es) c.self.invariant.0 here

pub remove_from-requires-clause-place : goal.remove_from-requires-clause-place
remove_from-requires-clause-place g c =
    λ C is.
    let cs = c.self.inside.chunks.items in
    let i = c.chunk_of-at.result in
    let es = c.as_slice-2.result.now in
    let p = c.place_in-place.result in
    let same : chunk_entries c.index.result.now ≡ seen es = search rules in
    let here : drop i (parts cs) ≡ seen es ∷ drop (i + 1) (parts cs) = map_at chunk_entries cs i c.index.result.now (search rules) (search rules) ∙ ap (λ l. l ∷ drop (i + 1) (parts cs)) same in
    let mine : seen es ≡ C = first_of (seen es) C (drop (i + 1) (parts cs)) (drop (i + 1) (parts cs)) (sym here ∙ is) in
    let within : p.at + 1 ≤ length es = search rules in
    omega (arith, within, length-map es arc_value, ap length mine)

pub invariant_of-self-2 : goal.invariant_of-self-2
invariant_of-self-2 g c =
    let R = g.K.Ord.cmp in
    let k = c.args.key.now in
    let cs = c.self.inside.chunks.items in
    let i = c.chunk_of-at.result in
    let es = c.as_slice-2.result.now in
    let p = c.place_in-place.result in
    let A = joined (take i (parts cs)) in
    let B = joined (drop (i + 1) (parts cs)) in
    let M = take p.at (seen es) ++ drop (p.at + 1) (seen es) in
    let same : chunk_entries c.index.result.now ≡ seen es = search rules in
    let here : drop i (parts cs) ≡ seen es ∷ drop (i + 1) (parts cs) = map_at chunk_entries cs i c.index.result.now (search rules) (search rules) ∙ ap (λ l. l ∷ drop (i + 1) (parts cs)) same in
    let first = subst (λ l. 0 < i → starts_after R k (drop i (parts l)) ≡ false) c.as_slice.ensures.value c.chunk_of-at.ensures.first in
    let next = subst (λ l. starts_after R k (drop (i + 1) (parts l)) ≡ true) c.as_slice.ensures.value c.chunk_of-at.ensures.next in
    let yes : p.found ≡ true = search rules in
    let done : c.remove_from.result ≡ true = search rules in
    let put : joined (parts c.remove_from.new.chunks.items) ≡ A ++ (M ++ B) = c.remove_from.ensures.removed done (seen es) here in
    let whole = removed_at g.met.K.Ord.total k (parts cs) i (seen es) c.self.invariant.0 c.self.invariant.1 first next here p.at p.found M (parts c.remove_from.new.chunks.items)
    yes c.place_in-place.ensures.before c.place_in-place.ensures.ahead refl put in
    let all = length_at g.met.K.Ord.total k (parts cs) i (seen es) c.self.invariant.0 c.self.invariant.1 first next here in
    let within : p.at + 1 ≤ length es = search rules in
    let less = length_without (seen es) p.at (omega (arith, within, length-map es arc_value)) in (
      subst (InOrder g.met.K.Ord.total) (sym whole) (remove_sorted g.met.K.Ord.total k (joined (parts cs)) c.self.invariant.0),
      c.remove_from.ensures.filled,
      omega (arith, all, less, within, c.self.invariant.2, length-map es arc_value, ap length put, length-append A (M ++ B), length-append M B),
    )

pub returns-clause-removed : goal.returns-clause-removed
returns-clause-removed g c =
    λ _.
    let R = g.K.Ord.cmp in
    let k = c.args.key.now in
    let cs = c.self.inside.chunks.items in
    let i = c.chunk_of-at.result in
    let es = c.as_slice-2.result.now in
    let p = c.place_in-place.result in
    let A = joined (take i (parts cs)) in
    let B = joined (drop (i + 1) (parts cs)) in
    let M = take p.at (seen es) ++ drop (p.at + 1) (seen es) in
    let same : chunk_entries c.index.result.now ≡ seen es = search rules in
    let here : drop i (parts cs) ≡ seen es ∷ drop (i + 1) (parts cs) = map_at chunk_entries cs i c.index.result.now (search rules) (search rules) ∙ ap (λ l. l ∷ drop (i + 1) (parts cs)) same in
    let first = subst (λ l. 0 < i → starts_after R k (drop i (parts l)) ≡ false) c.as_slice.ensures.value c.chunk_of-at.ensures.first in
    let next = subst (λ l. starts_after R k (drop (i + 1) (parts l)) ≡ true) c.as_slice.ensures.value c.chunk_of-at.ensures.next in
    let yes : p.found ≡ true = search rules in
    let done : c.remove_from.result ≡ true = search rules in
    let put : joined (parts c.remove_from.new.chunks.items) ≡ A ++ (M ++ B) = c.remove_from.ensures.removed done (seen es) here in
    removed_at g.met.K.Ord.total k (parts cs) i (seen es) c.self.invariant.0 c.self.invariant.1 first next here p.at p.found M (parts c.remove_from.new.chunks.items)
    yes c.place_in-place.ensures.before c.place_in-place.ensures.ahead refl put
    ∙ ap (remove_entry (is_at (R k))) c.self.view_is
