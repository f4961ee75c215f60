use Rattle.std.proofs.Common.{◌≡◌, ◌+◌, false, length, map, drop}
use Rattle.pages.specs.PageTexts.{item_texts}
use Rattle.server.proofs.ends.items_len.Given as goal

-- the items so far and those that are left are as long as all
abbrev pub invariant-loop-member : goal.invariant-loop-member
invariant-loop-member l =
    l.len + length (item_texts l.later (map (λ m. m.object.now.value) (drop l.member-index l.members)))
    ≡ length (item_texts false (map (λ m. m.object.now.value) l.members))
