use Rattle.std.proofs.Common.{rules, ◌∙◌, ◌++◌, ◌∷◌, ◌+◌, ap, take, drop}
use Rattle.shared_map.specs.Parts.{parts, seen, chunk_entries}
use Rattle.shared_map.proofs.Places.{map_set}
use Rattle.shared_map.proofs.chunks.set_chunk.Goals as goal

pub returns-clause-ok : goal.returns-clause-ok
returns-clause-ok g c =
    let cs = c.args.chunks.now.items in
    map_set chunk_entries cs c.args.at c.in_ok-chunk.chunk (search rules)
    ∙ ap (λ m. take c.args.at (parts cs) ++ (seen m.items ∷ drop (c.args.at + 1) (parts cs))) c.in_ok-chunk.ensures.ok
