use Rattle.std.proofs.Common.{◌≡◌, ◌+◌, ◌∙◌, ◌++◌, ap, take, drop}
use Rattle.std.specs.Arc.{arc_value}
use Rattle.shared_map.specs.Parts.{seen, chunk_entries}
use Rattle.shared_map.proofs.Places.{map_removed}
use Rattle.shared_map.proofs.alone.remove_alone.Goals as goal

pub returns-clause-removed : goal.returns-clause-removed
returns-clause-removed g c =
    λ _.
    let xs = c.in-Some.entries.now.items in
    let at = c.args.at in
    ap seen c.remove-gone.ensures.items ∙ map_removed arc_value xs at
    ∙ ap (λ v. take at (seen v.items) ++ drop (at + 1) (seen v.items)) c.in-Some.ensures.value
