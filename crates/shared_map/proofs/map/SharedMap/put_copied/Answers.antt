use Rattle.std.proofs.Common.{rules, arith, ◌≡◌, ◌∙◌, ◌∷◌, [], ◌++◌, ◌+◌, ◌-◌, ◌<◌, ap, sym, subst, take, drop, true, false, length}
use Rattle.std.specs.Arc.{arc_value}
use Rattle.std.proofs.lemmas.List.{length-append, length-map}
use Rattle.shared_map.specs.Entries.{put_entry}
use Rattle.shared_map.specs.Parts.{parts, seen, joined, chunk_entries, starts_after}
use Rattle.shared_map.proofs.Places.{map_at}
use Rattle.shared_map.proofs.Joined.{nothing}
use Rattle.shared_map.proofs.Orders.{InOrder, sound_one, put_sorted}
use Rattle.shared_map.proofs.Located.{put_at, sorted_at, length_at}
use Rattle.shared_map.proofs.map.SharedMap.put_copied.Goals as goal

pub invariant_of-self-then-is_empty : goal.invariant_of-self-then-is_empty
invariant_of-self-then-is_empty g c =
    let count : length c.self.inside.chunks.items ≡ 0 = search rules in
    let none : c.self.inside.chunks.items ≡ [] = nothing c.self.inside.chunks.items count in
    let pushed : c.push-then-is_empty.new.self.items ≡ c.self.inside.chunks.items ++ (c.in_ok-new.field-0 ∷ []) = search rules in
    let entry : chunk_entries c.in_ok-new.field-0 ≡ arc_value c.args.entry ∷ [] = search rules in
    let one : parts c.push-then-is_empty.new.self.items ≡ (arc_value c.args.entry ∷ []) ∷ [] = ap parts pushed ∙ ap (λ l. parts (l ++ (c.in_ok-new.field-0 ∷ []))) none ∙ ap (λ p. p ∷ []) entry in
    sound_one g.met.K.Ord.total (parts c.push-then-is_empty.new.self.items) (arc_value c.args.entry) one

pub overflow_sub-others : goal.overflow_sub-others
overflow_sub-others g c =
    let R = g.K.Ord.cmp in
    let k = c.deref.result.now.0 in
    let cs = c.self.inside.chunks.items in
    let i = c.chunk_of-at.result in
    let es = c.as_slice-chunk.result.now in
    let same : chunk_entries c.index.result.now ≡ seen es = search rules in
    let here : drop i (parts cs) ≡ seen es ∷ drop (i + 1) (parts cs) = map_at chunk_entries cs i c.index.result.now (search rules) (search rules) ∙ ap (λ l. l ∷ drop (i + 1) (parts cs)) same in
    let all = length_at g.met.K.Ord.total k (parts cs) i (seen es) c.self.invariant.0 c.self.invariant.1
    (subst (λ l. 0 < i → starts_after R k (drop i (parts l)) ≡ false) c.as_slice.ensures.value c.chunk_of-at.ensures.first)
    (subst (λ l. starts_after R k (drop (i + 1) (parts l)) ≡ true) c.as_slice.ensures.value c.chunk_of-at.ensures.next) here in
    omega (arith, all, c.self.invariant.2, length-map es arc_value)

pub with_entry-requires : goal.with_entry-requires
with_entry-requires g c =
    let cs = c.self.inside.chunks.items in
    let i = c.chunk_of-at.result in
    let es = c.as_slice-chunk.result.now in
    let same : chunk_entries c.index.result.now ≡ seen es = search rules in
    let here : drop i (parts cs) ≡ seen es ∷ drop (i + 1) (parts cs) = map_at chunk_entries cs i c.index.result.now (search rules) (search rules) ∙ ap (λ l. l ∷ drop (i + 1) (parts cs)) same in
    sorted_at g.met.K.Ord.total (parts cs) i (seen es) c.self.invariant.0 here

pub invariant_of-self-2 : goal.invariant_of-self-2
invariant_of-self-2 g c =
    let R = g.K.Ord.cmp in
    let k = c.deref.result.now.0 in
    let cs = c.self.inside.chunks.items in
    let i = c.chunk_of-at.result in
    let es = c.as_slice-chunk.result.now in
    let e = arc_value c.args.entry in
    let A = joined (take i (parts cs)) in
    let B = joined (drop (i + 1) (parts cs)) in
    let made = c.in_ok-made.made in
    let same : chunk_entries c.index.result.now ≡ seen es = search rules in
    let here : drop i (parts cs) ≡ seen es ∷ drop (i + 1) (parts cs) = map_at chunk_entries cs i c.index.result.now (search rules) (search rules) ∙ ap (λ l. l ∷ drop (i + 1) (parts cs)) same in
    let first = subst (λ l. 0 < i → starts_after R k (drop i (parts l)) ≡ false) c.as_slice.ensures.value c.chunk_of-at.ensures.first in
    let next = subst (λ l. starts_after R k (drop (i + 1) (parts l)) ≡ true) c.as_slice.ensures.value c.chunk_of-at.ensures.next in
    let put : joined (parts c.put_chunk.new.chunks.items) ≡ A ++ (seen made.items ++ B) = search rules in
    let whole : joined (parts c.put_chunk.new.chunks.items) ≡ put_entry R (joined (parts cs)) e =
    put ∙ ap (λ l. A ++ (l ++ B)) c.in_ok-made.ensures ∙ sym (put_at g.met.K.Ord.total k (parts cs) i (seen es) c.self.invariant.0 c.self.invariant.1 first next here e (ap (λ x. x.0) (sym c.deref.ensures))) in
    let all = length_at g.met.K.Ord.total k (parts cs) i (seen es) c.self.invariant.0 c.self.invariant.1 first next here in
    let count : c.in-Some.len ≡ (c.self.inside.len - length es) + length made.items = search rules in (
      subst (InOrder g.met.K.Ord.total) (sym whole) (put_sorted g.met.K.Ord.total (joined (parts cs)) e c.self.invariant.0),
      c.put_chunk.ensures.filled c.self.invariant.1,
      omega (arith, count, all, c.self.invariant.2, length-map es arc_value, length-map made.items arc_value, ap length put, length-append A (seen made.items ++ B), length-append (seen made.items) B),
    )

pub returns-clause-ok : goal.returns-clause-ok
returns-clause-ok g c =
    let R = g.K.Ord.cmp in
    let k = c.deref.result.now.0 in
    let cs = c.self.inside.chunks.items in
    let i = c.chunk_of-at.result in
    let es = c.as_slice-chunk.result.now in
    let e = arc_value c.args.entry in
    let A = joined (take i (parts cs)) in
    let B = joined (drop (i + 1) (parts cs)) in
    let same : chunk_entries c.index.result.now ≡ seen es = search rules in
    let here : drop i (parts cs) ≡ seen es ∷ drop (i + 1) (parts cs) = map_at chunk_entries cs i c.index.result.now (search rules) (search rules) ∙ ap (λ l. l ∷ drop (i + 1) (parts cs)) same in
    let first = subst (λ l. 0 < i → starts_after R k (drop i (parts l)) ≡ false) c.as_slice.ensures.value c.chunk_of-at.ensures.first in
    let next = subst (λ l. starts_after R k (drop (i + 1) (parts l)) ≡ true) c.as_slice.ensures.value c.chunk_of-at.ensures.next in
    let put : joined (parts c.put_chunk.new.chunks.items) ≡ A ++ (seen c.in_ok-made.made.items ++ B) = search rules in
    let whole : joined (parts c.put_chunk.new.chunks.items) ≡ put_entry R (joined (parts cs)) e =
    put ∙ ap (λ l. A ++ (l ++ B)) c.in_ok-made.ensures ∙ sym (put_at g.met.K.Ord.total k (parts cs) i (seen es) c.self.invariant.0 c.self.invariant.1 first next here e (ap (λ x. x.0) (sym c.deref.ensures))) in
    whole ∙ ap (λ l. put_entry R l e) c.self.view_is
