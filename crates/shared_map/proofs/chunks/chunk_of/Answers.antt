use Rattle.std.proofs.Common.{rules, ◌≡◌, ◌<◌, ◌+◌, ◌-◌, ◌/◌, ◌∙◌, ap, length, true, false}
use Rattle.shared_map.specs.Parts.{chunk_entries, begins_after, starts_after}
use Rattle.shared_map.proofs.Places.{map_at}
use Rattle.shared_map.proofs.chunks.chunk_of.Goals as goal

pub loop-high-preserved-then-begins_after : goal.loop-high-preserved-then-begins_after
loop-high-preserved-then-begins_after g c =
    let cs = c.args.chunks.now in
    let x = c.index-chunks-middle.result in
    let middle = c.loop-high.low + (c.loop-high.high - c.loop-high.low) / 2 in
    let under : c.loop-high.low < middle = search rules in
    let within : middle < length cs = search rules in
    let begins : begins_after g.K.Ord.cmp c.args.key.now (chunk_entries x) ≡ true = search rules in
    (under, search rules, c.loop-high.invariant.2, ap (starts_after g.K.Ord.cmp c.args.key.now) (map_at chunk_entries cs middle x within c.index-chunks-middle.is) ∙ begins)

pub loop-high-preserved : goal.loop-high-preserved
loop-high-preserved g c =
    let cs = c.args.chunks.now in
    let x = c.index-chunks-middle.result in
    let middle = c.loop-high.low + (c.loop-high.high - c.loop-high.low) / 2 in
    let over : middle < c.loop-high.high = search rules in
    let within : middle < length cs = search rules in
    let begins : begins_after g.K.Ord.cmp c.args.key.now (chunk_entries x) ≡ false = search rules in
    (over, c.loop-high.invariant.1, (λ _. ap (starts_after g.K.Ord.cmp c.args.key.now) (map_at chunk_entries cs middle x within c.index-chunks-middle.is) ∙ begins), c.loop-high.invariant.3)
