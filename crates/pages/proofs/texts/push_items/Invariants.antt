use Rattle.std.proofs.Common.{◌≡◌, ◌++◌, false, map, drop, string_bytes}
use Rattle.pages.specs.PageTexts.{item_texts}
use Rattle.pages.proofs.texts.push_items.Given as goal

-- the items so far and those that are left are all
abbrev pub invariant-loop-member : goal.invariant-loop-member
invariant-loop-member l =
    string_bytes l.text ++ item_texts l.later (map (λ m. m.object.now.value) (drop l.member-index l.members))
    ≡ string_bytes l.initial.text ++ item_texts false (map (λ m. m.object.now.value) l.members)
