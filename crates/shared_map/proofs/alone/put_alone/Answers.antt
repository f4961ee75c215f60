use Rattle.std.proofs.Common.{rules, arith, ◌≡◌, ◌<◌, ◌≤◌, ◌+◌, ◌∙◌, ◌++◌, ◌∷◌, ℕ, List, Bool, ap, sym, subst, take, drop, length, cond, true, false}
use Rattle.std.specs.Arc.{arc_value}
use Rattle.std.proofs.lemmas.List.{length-map}
use Rattle.shared_map.specs.Parts.{seen, chunk_entries}
use Rattle.shared_map.proofs.Places.{map_set, map_inserted}
use Rattle.shared_map.proofs.alone.put_alone.Goals as goal

pub returns-then-place-clause-put : goal.returns-then-place-clause-put
returns-then-place-clause-put g c =
    λ _.
    let xs = c.in-Some.entries.now.items in
    let at = c.args.place.at in
    let copy = c.in_ok-copy.copy in
    let same : seen xs ≡ chunk_entries c.args.chunk.now = ap (λ v. seen v.items) c.in-Some.ensures.value in
    let one : at + 1 ≤ length (chunk_entries c.args.chunk.now) = subst (λ b. at + cond b 1 0 ≤ length (chunk_entries c.args.chunk.now)) c.if-place.true c.requires in
    let within : at < length xs = omega (arith, one, ap length same, length-map xs arc_value) in
    map_set arc_value xs at copy within
    ∙ ap (λ l. take at l ++ (arc_value copy ∷ drop (at + 1) l)) same
    ∙ ap (λ e. take at (chunk_entries c.args.chunk.now) ++ (e ∷ drop (at + 1) (chunk_entries c.args.chunk.now))) c.in_ok-copy.ensures
    ∙ ap (λ b. take at (chunk_entries c.args.chunk.now) ++ (arc_value c.args.entry.now ∷ drop (at + cond b 1 0) (chunk_entries c.args.chunk.now))) (sym c.if-place.true)

pub returns-in_ok-insert-clause-put : goal.returns-in_ok-insert-clause-put
returns-in_ok-insert-clause-put g c =
    λ _.
    let xs = c.in-Some.entries.now.items in
    let at = c.args.place.at in
    let copy = c.in_ok-copy.copy in
    let same : seen xs ≡ chunk_entries c.args.chunk.now = ap (λ v. seen v.items) c.in-Some.ensures.value in
    let nothing : at + cond c.args.place.found 1 0 ≡ at + 0 = ap (λ b. at + cond b 1 0) c.if-place.false in
    let none : at ≡ at + cond c.args.place.found 1 0 = omega (arith, nothing) in
    ap seen c.in_ok-insert.ensures.items
    ∙ map_inserted arc_value xs at copy
    ∙ ap (λ l. take at l ++ (arc_value copy ∷ drop at l)) same
    ∙ ap (λ e. take at (chunk_entries c.args.chunk.now) ++ (e ∷ drop at (chunk_entries c.args.chunk.now))) c.in_ok-copy.ensures
    ∙ ap (λ n. take at (chunk_entries c.args.chunk.now) ++ (arc_value c.args.entry.now ∷ drop n (chunk_entries c.args.chunk.now))) none
