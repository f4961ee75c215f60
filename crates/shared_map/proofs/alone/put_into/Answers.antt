use Rattle.std.proofs.Common.{rules, ◌≡◌, ◌∙◌, ◌∷◌, ◌++◌, ◌+◌, ◌<◌, ◌≤◌, ap, sym, subst, take, drop, true, false, not, cond, length, slice_set, OnErr, Greater, arith}
use Rattle.std.specs.Arc.{arc_value}
use Rattle.std.proofs.lemmas.List.{length-map}
use Rattle.shared_map.specs.Parts.{parts, seen, joined, chunk_entries, AreFilled, AllAre, BeginsAt}
use Rattle.shared_map.proofs.Changed.{laid_at, length_laid, some_laid, filled_set, length_set, put_set}
use Rattle.shared_map.proofs.Joined.{first_of}
use Rattle.shared_map.proofs.Located.{sorted_at, set_same}
use Rattle.shared_map.proofs.Places.{map_at, map_set}
use Rattle.shared_map.proofs.alone.put_into.Goals as goal

pub place_in-place-requires : goal.place_in-place-requires
place_in-place-requires g c =
    let cs = c.args.chunks.now.items in
    let i = c.args.at in
    let es = c.as_slice-chunk.result.now in
    let same : chunk_entries c.index.result.now ≡ seen es = search rules in
    let here : drop i (parts cs) ≡ seen es ∷ drop (i + 1) (parts cs) = map_at chunk_entries cs i c.index.result.now (search rules) (search rules) ∙ ap (λ l. l ∷ drop (i + 1) (parts cs)) same in
    sorted_at g.met.K.Ord.total (parts cs) i (seen es) c.requires.ordered here

pub returns-in_err-put_alone-clause-filled : goal.returns-in_err-put_alone-clause-filled
returns-in_err-put_alone-clause-filled g c =
    let cs = c.args.chunks.now.items in
    let x = c.index_mut.result.now in
    let same : chunk_entries c.put_alone.new.chunk ≡ chunk_entries x = search rules in
    subst AreFilled (sym (set_same chunk_entries cs c.args.at x c.put_alone.new.chunk (search rules) (search rules) same)) c.requires.filled

pub returns-in_err-put_alone-clause-err : goal.returns-in_err-put_alone-clause-err
returns-in_err-put_alone-clause-err g c =
    let cs = c.args.chunks.now.items in
    let x = c.index_mut.result.now in
    let same : chunk_entries c.put_alone.new.chunk ≡ chunk_entries x = search rules in
    let kept : parts (slice_set cs c.args.at c.put_alone.new.chunk) ≡ parts cs = set_same chunk_entries cs c.args.at x c.put_alone.new.chunk (search rules) (search rules) same in
    search (rules, kept)

pub returns-then-branch-clause-put : goal.returns-then-branch-clause-put
returns-then-branch-clause-put g c =
    let o = g.met.K.Ord.total in
    let cs = c.args.chunks.now.items in
    let i = c.args.at in
    let x = c.index_mut.result.now in
    let y = c.put_alone.new.chunk in
    let p = c.place_in-place.result in
    let e = arc_value c.args.entry.now in
    let es = c.as_slice-chunk.result.now in
    let here : drop i (parts cs) ≡ chunk_entries x ∷ drop (i + 1) (parts cs) = map_at chunk_entries cs i x (search rules) (search rules) in
    let there : drop i (parts cs) ≡ chunk_entries c.index.result.now ∷ drop (i + 1) (parts cs) = map_at chunk_entries cs i c.index.result.now (search rules) (search rules) in
    let read : seen es ≡ chunk_entries c.index.result.now = search rules in
    let same : seen es ≡ chunk_entries x = read ∙ first_of (chunk_entries c.index.result.now) (chunk_entries x) (drop (i + 1) (parts cs)) (drop (i + 1) (parts cs)) (sym there ∙ here) in
    let put : chunk_entries y ≡ laid_at (chunk_entries x) p.at p.found e = search rules in
    put_set o (parts cs) (parts (slice_set cs i y)) i (chunk_entries x) p.at p.found e c.requires.ordered c.requires.filled c.requires.first c.requires.next here
    (subst (λ l. AllAre g.K.Ord.cmp Greater e.0 (take p.at l)) same (subst (λ k. AllAre g.K.Ord.cmp Greater k (take p.at (seen es))) (ap (λ z. z.0) c.deref-2.ensures) c.place_in-place.ensures.before))
    (subst (λ l. BeginsAt g.K.Ord.cmp e.0 p.found (drop p.at l)) same (subst (λ k. BeginsAt g.K.Ord.cmp k p.found (drop p.at (seen es))) (ap (λ z. z.0) c.deref-2.ensures) c.place_in-place.ensures.ahead))
    (map_set chunk_entries cs i y (search rules) ∙ ap (λ l. take i (parts cs) ++ (l ∷ drop (i + 1) (parts cs))) put)

pub returns-then-branch-clause-more : goal.returns-then-branch-clause-more
returns-then-branch-clause-more g c =
    let cs = c.args.chunks.now.items in
    let i = c.args.at in
    let x = c.index_mut.result.now in
    let y = c.put_alone.new.chunk in
    let p = c.place_in-place.result in
    let e = arc_value c.args.entry.now in
    let es = c.as_slice-chunk.result.now in
    let here : drop i (parts cs) ≡ chunk_entries x ∷ drop (i + 1) (parts cs) = map_at chunk_entries cs i x (search rules) (search rules) in
    let there : drop i (parts cs) ≡ chunk_entries c.index.result.now ∷ drop (i + 1) (parts cs) = map_at chunk_entries cs i c.index.result.now (search rules) (search rules) in
    let read : seen es ≡ chunk_entries c.index.result.now = search rules in
    let same : seen es ≡ chunk_entries x = read ∙ first_of (chunk_entries c.index.result.now) (chunk_entries x) (drop (i + 1) (parts cs)) (drop (i + 1) (parts cs)) (sym there ∙ here) in
    let put : chunk_entries y ≡ laid_at (chunk_entries x) p.at p.found e = search rules in
    let within : p.at + cond p.found 1 0 ≤ length (chunk_entries x) = omega (arith, c.place_in-place.ensures.within, length-map es arc_value, ap length same) in
    length_set (parts cs) (parts (slice_set cs i y)) i (chunk_entries x) (laid_at (chunk_entries x) p.at p.found e)
    (map_set chunk_entries cs i y (search rules) ∙ ap (λ l. take i (parts cs) ++ (l ∷ drop (i + 1) (parts cs))) put) here (cond (not p.found) 1 0) (length_laid (chunk_entries x) p.at p.found e within)

pub returns-then-branch-clause-filled : goal.returns-then-branch-clause-filled
returns-then-branch-clause-filled g c =
    let cs = c.args.chunks.now.items in
    let i = c.args.at in
    let x = c.index_mut.result.now in
    let y = c.put_alone.new.chunk in
    let p = c.place_in-place.result in
    let e = arc_value c.args.entry.now in
    let put : chunk_entries y ≡ laid_at (chunk_entries x) p.at p.found e = search rules in
    filled_set (parts cs) (parts (slice_set cs i y)) i (laid_at (chunk_entries x) p.at p.found e)
    (map_set chunk_entries cs i y (search rules) ∙ ap (λ l. take i (parts cs) ++ (l ∷ drop (i + 1) (parts cs))) put) c.requires.filled (some_laid (chunk_entries x) p.at p.found e)

pub returns-else-branch-clause-left : goal.returns-else-branch-clause-left
returns-else-branch-clause-left g c =
    let cs = c.args.chunks.now.items in
    let x = c.index_mut.result.now in
    let same : chunk_entries c.put_alone.new.chunk ≡ chunk_entries x = search rules in
    set_same chunk_entries cs c.args.at x c.put_alone.new.chunk (search rules) (search rules) same

pub returns-else-branch-clause-filled : goal.returns-else-branch-clause-filled
returns-else-branch-clause-filled g c = subst AreFilled (sym (returns-else-branch-clause-left g c)) c.requires.filled
