use Rattle.std.proofs.Common.{rules, arith, ◌≡◌, ◌∙◌, ◌∷◌, ◌++◌, ◌+◌, ◌<◌, ◌≤◌, ap, sym, subst, take, drop, true, false, length}
use Rattle.std.specs.Arc.{arc_value}
use Rattle.std.specs.Map.{remove_entry}
use Rattle.std.specs.BTreeMap.{is_at}
use Rattle.std.proofs.lemmas.List.{length-append, length-map}
use Rattle.shared_map.specs.Parts.{parts, seen, joined, chunk_entries, starts_after, BeginsAt}
use Rattle.shared_map.proofs.Places.{map_at}
use Rattle.shared_map.proofs.Joined.{around, length_without}
use Rattle.shared_map.proofs.Orders.{InOrder, remove_sorted, removed_nowhere}
use Rattle.shared_map.proofs.Located.{remove_at, removed_at, sorted_at, length_at}
use Rattle.shared_map.proofs.map.SharedMap.remove_copied.Goals as goal

pub place_in-place-requires : goal.place_in-place-requires
place_in-place-requires g c =
    let cs = c.self.inside.chunks.items in
    let i = c.chunk_of-at.result in
    let es = c.as_slice-chunk.result.now in
    let same : chunk_entries c.index.result.now ≡ seen es = search rules in
    let here : drop i (parts cs) ≡ seen es ∷ drop (i + 1) (parts cs) = map_at chunk_entries cs i c.index.result.now (search rules) (search rules) ∙ ap (λ l. l ∷ drop (i + 1) (parts cs)) same in
    sorted_at g.met.K.Ord.total (parts cs) i (seen es) c.self.invariant.0 here

pub returns-then-not-place-clause-ok : goal.returns-then-not-place-clause-ok
returns-then-not-place-clause-ok g c =
    let R = g.K.Ord.cmp in
    let k = c.args.key.now in
    let cs = c.self.inside.chunks.items in
    let i = c.chunk_of-at.result in
    let es = c.as_slice-chunk.result.now in
    let p = c.place_in-place.result in
    let A = joined (take i (parts cs)) in
    let B = joined (drop (i + 1) (parts cs)) in
    let same : chunk_entries c.index.result.now ≡ seen es = search rules in
    let here : drop i (parts cs) ≡ seen es ∷ drop (i + 1) (parts cs) = map_at chunk_entries cs i c.index.result.now (search rules) (search rules) ∙ ap (λ l. l ∷ drop (i + 1) (parts cs)) same in
    let first = subst (λ l. 0 < i → starts_after R k (drop i (parts l)) ≡ false) c.as_slice.ensures.value c.chunk_of-at.ensures.first in
    let next = subst (λ l. starts_after R k (drop (i + 1) (parts l)) ≡ true) c.as_slice.ensures.value c.chunk_of-at.ensures.next in
    let no : p.found ≡ false = search rules in
    let stays = removed_nowhere g.met.K.Ord.total k (seen es) p.at (sorted_at g.met.K.Ord.total (parts cs) i (seen es) c.self.invariant.0 here)
    c.place_in-place.ensures.before (subst (λ b. BeginsAt R k b (drop p.at (seen es))) no c.place_in-place.ensures.ahead) in
    sym (ap (remove_entry (is_at (R k))) (sym c.self.view_is)
    ∙ remove_at g.met.K.Ord.total k (parts cs) i (seen es) c.self.invariant.0 c.self.invariant.1 first next here
    ∙ ap (λ l. A ++ (l ++ B)) stays ∙ sym (around (parts cs) i (seen es) here) ∙ c.self.view_is)

pub overflow_sub-self : goal.overflow_sub-self
overflow_sub-self g c =
    let R = g.K.Ord.cmp in
    let k = c.args.key.now in
    let cs = c.self.inside.chunks.items in
    let i = c.chunk_of-at.result in
    let es = c.as_slice-chunk.result.now in
    let p = c.place_in-place.result in
    let same : chunk_entries c.index.result.now ≡ seen es = search rules in
    let here : drop i (parts cs) ≡ seen es ∷ drop (i + 1) (parts cs) = map_at chunk_entries cs i c.index.result.now (search rules) (search rules) ∙ ap (λ l. l ∷ drop (i + 1) (parts cs)) same in
    let first = subst (λ l. 0 < i → starts_after R k (drop i (parts l)) ≡ false) c.as_slice.ensures.value c.chunk_of-at.ensures.first in
    let next = subst (λ l. starts_after R k (drop (i + 1) (parts l)) ≡ true) c.as_slice.ensures.value c.chunk_of-at.ensures.next in
    let all = length_at g.met.K.Ord.total k (parts cs) i (seen es) c.self.invariant.0 c.self.invariant.1 first next here in
    let within : p.at + 1 ≤ length es = search rules in
    omega (arith, all, c.self.invariant.2, length-map es arc_value, within)

pub invariant_of-self-2 : goal.invariant_of-self-2
invariant_of-self-2 g c =
    let R = g.K.Ord.cmp in
    let k = c.args.key.now in
    let cs = c.self.inside.chunks.items in
    let i = c.chunk_of-at.result in
    let es = c.as_slice-chunk.result.now in
    let p = c.place_in-place.result in
    let A = joined (take i (parts cs)) in
    let B = joined (drop (i + 1) (parts cs)) in
    let made = c.in_ok-made.made in
    let same : chunk_entries c.index.result.now ≡ seen es = search rules in
    let here : drop i (parts cs) ≡ seen es ∷ drop (i + 1) (parts cs) = map_at chunk_entries cs i c.index.result.now (search rules) (search rules) ∙ ap (λ l. l ∷ drop (i + 1) (parts cs)) same in
    let first = subst (λ l. 0 < i → starts_after R k (drop i (parts l)) ≡ false) c.as_slice.ensures.value c.chunk_of-at.ensures.first in
    let next = subst (λ l. starts_after R k (drop (i + 1) (parts l)) ≡ true) c.as_slice.ensures.value c.chunk_of-at.ensures.next in
    let yes : p.found ≡ true = search rules in
    let put : joined (parts c.put_chunk.new.chunks.items) ≡ A ++ (seen made.items ++ B) = search rules in
    let whole = removed_at g.met.K.Ord.total k (parts cs) i (seen es) c.self.invariant.0 c.self.invariant.1 first next here p.at p.found (seen made.items) (parts c.put_chunk.new.chunks.items)
    yes c.place_in-place.ensures.before c.place_in-place.ensures.ahead c.in_ok-made.ensures put in
    let all = length_at g.met.K.Ord.total k (parts cs) i (seen es) c.self.invariant.0 c.self.invariant.1 first next here in
    let within : p.at + 1 ≤ length es = search rules in
    let less = length_without (seen es) p.at (omega (arith, within, length-map es arc_value)) in (
      subst (InOrder g.met.K.Ord.total) (sym whole) (remove_sorted g.met.K.Ord.total k (joined (parts cs)) c.self.invariant.0),
      c.put_chunk.ensures.filled c.self.invariant.1,
      omega (arith, all, less, within, c.self.invariant.2, length-map es arc_value, ap length c.in_ok-made.ensures, ap length put, length-append A (seen made.items ++ B), length-append (seen made.items) B),
    )

pub returns-clause-ok : goal.returns-clause-ok
returns-clause-ok g c =
    let R = g.K.Ord.cmp in
    let k = c.args.key.now in
    let cs = c.self.inside.chunks.items in
    let i = c.chunk_of-at.result in
    let es = c.as_slice-chunk.result.now in
    let p = c.place_in-place.result in
    let A = joined (take i (parts cs)) in
    let B = joined (drop (i + 1) (parts cs)) in
    let made = c.in_ok-made.made in
    let same : chunk_entries c.index.result.now ≡ seen es = search rules in
    let here : drop i (parts cs) ≡ seen es ∷ drop (i + 1) (parts cs) = map_at chunk_entries cs i c.index.result.now (search rules) (search rules) ∙ ap (λ l. l ∷ drop (i + 1) (parts cs)) same in
    let first = subst (λ l. 0 < i → starts_after R k (drop i (parts l)) ≡ false) c.as_slice.ensures.value c.chunk_of-at.ensures.first in
    let next = subst (λ l. starts_after R k (drop (i + 1) (parts l)) ≡ true) c.as_slice.ensures.value c.chunk_of-at.ensures.next in
    let yes : p.found ≡ true = search rules in
    let put : joined (parts c.put_chunk.new.chunks.items) ≡ A ++ (seen made.items ++ B) = search rules in
    removed_at g.met.K.Ord.total k (parts cs) i (seen es) c.self.invariant.0 c.self.invariant.1 first next here p.at p.found (seen made.items) (parts c.put_chunk.new.chunks.items)
    yes c.place_in-place.ensures.before c.place_in-place.ensures.ahead c.in_ok-made.ensures put
    ∙ ap (remove_entry (is_at (R k))) c.self.view_is
