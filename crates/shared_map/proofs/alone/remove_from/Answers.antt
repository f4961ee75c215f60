use Rattle.std.proofs.Common.{rules, arith, ◌≡◌, ◌∙◌, ◌∷◌, ◌++◌, ◌+◌, ◌<◌, List, ap, sym, subst, take, drop, true, false, length, slice_set, Bool, refl}
use Rattle.std.proofs.lemmas.List.{length-map}
use Rattle.std.specs.Arc.{arc_value}
use Rattle.shared_map.specs.Parts.{parts, seen, joined, chunk_entries, AreFilled}
use Rattle.shared_map.proofs.Changed.{filled_set, joined_set, either}
use Rattle.shared_map.proofs.Joined.{length_without, first_of}
use Rattle.shared_map.proofs.Located.{set_same}
use Rattle.shared_map.proofs.Places.{map_at, map_set}
use Rattle.shared_map.proofs.alone.remove_from.Goals as goal

pub remove_alone-requires : goal.remove_alone-requires
remove_alone-requires g c =
    let cs = c.args.chunks.now.items in
    let x = c.index_mut.result.now in
    c.requires.place (chunk_entries x) (map_at chunk_entries cs c.args.at x (search rules) (search rules))

pub returns-then-len-gt1-clause-removed : goal.returns-then-len-gt1-clause-removed
returns-then-len-gt1-clause-removed g c =
    λ done C is.
    let cs = c.args.chunks.now.items in
    let i = c.args.at in
    let x = c.index_mut.result.now in
    let y = c.remove_alone.new.chunk in
    let here : drop i (parts cs) ≡ chunk_entries x ∷ drop (i + 1) (parts cs) = map_at chunk_entries cs i x (search rules) (search rules) in
    let mine : chunk_entries x ≡ C = first_of (chunk_entries x) C (drop (i + 1) (parts cs)) (drop (i + 1) (parts cs)) (sym here ∙ is) in
    joined_set (parts cs) (parts (slice_set cs i y)) i (take c.args.place C ++ drop (c.args.place + 1) C)
    (map_set chunk_entries cs i y (search rules) ∙ ap (λ l. take i (parts cs) ++ (l ∷ drop (i + 1) (parts cs))) (c.remove_alone.ensures.removed done ∙ ap (λ l. take c.args.place l ++ drop (c.args.place + 1) l) mine))

pub returns-then-len-gt1-clause-left : goal.returns-then-len-gt1-clause-left
returns-then-len-gt1-clause-left g c =
    λ no. set_same chunk_entries c.args.chunks.now.items c.args.at c.index_mut.result.now c.remove_alone.new.chunk (search rules) (search rules) (c.remove_alone.ensures.left no)

pub returns-then-len-gt1-clause-filled : goal.returns-then-len-gt1-clause-filled
returns-then-len-gt1-clause-filled g c =
    let cs = c.args.chunks.now.items in
    let i = c.args.at in
    let x = c.index_mut.result.now in
    let y = c.remove_alone.new.chunk in
    let there : drop i (parts cs) ≡ chunk_entries c.index.result.now ∷ drop (i + 1) (parts cs) = map_at chunk_entries cs i c.index.result.now (search rules) (search rules) in
    let here : drop i (parts cs) ≡ chunk_entries x ∷ drop (i + 1) (parts cs) = map_at chunk_entries cs i x (search rules) (search rules) in
    let same : chunk_entries c.index.result.now ≡ chunk_entries x = first_of (chunk_entries c.index.result.now) (chunk_entries x) (drop (i + 1) (parts cs)) (drop (i + 1) (parts cs)) (sym there ∙ here) in
    let read : 1 < length (chunk_entries c.index.result.now) = search (rules, length-map (arc_value c.index.result.now).items arc_value) in
    let M = take c.args.place (chunk_entries x) ++ drop (c.args.place + 1) (chunk_entries x) in
    either c.remove_alone.result (AreFilled (parts (slice_set cs i y)))
    (λ done. filled_set (parts cs) (parts (slice_set cs i y)) i M (map_set chunk_entries cs i y (search rules) ∙ ap (λ l. take i (parts cs) ++ (l ∷ drop (i + 1) (parts cs))) (c.remove_alone.ensures.removed done)) c.requires.filled
    (omega (arith, read, ap length same, length_without (chunk_entries x) c.args.place (c.requires.place (chunk_entries x) here))))
    (λ no. subst AreFilled (sym (returns-then-len-gt1-clause-left g c no)) c.requires.filled)
