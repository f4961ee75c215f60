use Rattle.std.proofs.Common.{rules, arith, ◌≡◌, ◌∙◌, ◌++◌, [], ◌+◌, ◌<◌, ap, sym, subst, take, drop, length, slice_set}
use Rattle.std.specs.List.{insert}
use Rattle.std.specs.Arc.{arc_value}
use Rattle.shared_map.specs.Parts.{parts, seen, chunk_entries, joined, AreFilled}
use Rattle.shared_map.proofs.Places.{map_two, map_removed}
use Rattle.shared_map.proofs.Joined.{joined_none, joined_two, filled_none, filled_two, seen_halves, some_taken, some_dropped, nothing}
use Rattle.shared_map.proofs.chunks.put_chunk.Goals as goal

pub returns-clause-ok : goal.returns-clause-ok
returns-clause-ok g c =
    let cs = c.args.chunks.now.items in
    let at = c.args.at in
    let front = c.in_ok-front.front in
    let rest = c.in_ok-rest.rest in
    let within : at < length cs = search rules in
    let inserted : c.insert.new.self.items ≡ insert cs (at + 1) rest = search rules in
    let fore : chunk_entries front ≡ seen (take 12 c.args.made.items) = search rules in
    let aft : chunk_entries rest ≡ seen (drop 12 c.args.made.items) = search rules in
    ap (λ l. joined (parts (slice_set l at front))) inserted ∙ ap joined (map_two chunk_entries cs at front rest within)
    ∙ joined_two (take at (parts cs)) (drop (at + 1) (parts cs)) (chunk_entries front) (chunk_entries rest)
    ∙ ap (λ l. joined (take at (parts cs)) ++ (l ++ joined (drop (at + 1) (parts cs))))
    (ap (λ l. l ++ chunk_entries rest) fore ∙ ap (λ l. seen (take 12 c.args.made.items) ++ l) aft ∙ seen_halves arc_value c.args.made.items 12)

pub returns-clause-filled : goal.returns-clause-filled
returns-clause-filled g c =
    λ filled.
    let cs = c.args.chunks.now.items in
    let at = c.args.at in
    let front = c.in_ok-front.front in
    let rest = c.in_ok-rest.rest in
    let within : at < length cs = search rules in
    let inserted : c.insert.new.self.items ≡ insert cs (at + 1) rest = search rules in
    let fore : chunk_entries front ≡ seen (take 12 c.args.made.items) = search rules in
    let aft : chunk_entries rest ≡ seen (drop 12 c.args.made.items) = search rules in
    let many : 12 < length c.args.made.items = search rules in
    let some : 0 < length (chunk_entries front) = subst (λ l. 0 < length l) (sym fore) (some_taken arc_value c.args.made.items 12 (omega arith) many) in
    let more : 0 < length (chunk_entries rest) = subst (λ l. 0 < length l) (sym aft) (some_dropped arc_value c.args.made.items 12 many) in
    subst AreFilled (sym (ap (λ l. parts (slice_set l at front)) inserted ∙ map_two chunk_entries cs at front rest within))
    (filled_two (parts cs) at (at + 1) (chunk_entries front) (chunk_entries rest) filled some more)

pub returns-then-is_empty-clause-ok : goal.returns-then-is_empty-clause-ok
returns-then-is_empty-clause-ok g c =
    let cs = c.args.chunks.now.items in
    let at = c.args.at in
    let count : length c.args.made.items ≡ 0 = search rules in
    let none : seen c.args.made.items ≡ [] = ap seen (nothing c.args.made.items count) in
    ap (λ l. joined (parts l)) c.remove-gone.ensures.items ∙ ap joined (map_removed chunk_entries cs at) ∙ joined_none (take at (parts cs)) (drop (at + 1) (parts cs))
    ∙ ap (λ l. joined (take at (parts cs)) ++ (l ++ joined (drop (at + 1) (parts cs)))) (sym none)

pub returns-then-is_empty-clause-filled : goal.returns-then-is_empty-clause-filled
returns-then-is_empty-clause-filled g c =
    λ filled.
    let cs = c.args.chunks.now.items in
    let at = c.args.at in
    subst AreFilled (sym (ap parts c.remove-gone.ensures.items ∙ map_removed chunk_entries cs at)) (filled_none (parts cs) at (at + 1) filled)
