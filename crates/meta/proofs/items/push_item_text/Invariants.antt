use Rattle.std.proofs.Common.{◌≡◌, ◌++◌, ◌∷◌, false, string_bytes}
use Rattle.serde_json.specs.View.{members_view}
use Rattle.serde_json.specs.Written.{members_have_float}
use Rattle.meta.specs.Items.{item_text}
use Rattle.meta.proofs.items.push_item_text.Given as goal

-- the text so far, then what is shown of the members that are left, is all of it; and none of these has a float
abbrev pub invariant-loop-key : goal.invariant-loop-key
invariant-loop-key l =
    (string_bytes l.text ++ item_text l.later (members_view l.key-iterator) ≡ string_bytes l.fn.text ++ 123 ∷ item_text false (members_view l.members.entries))
    × (members_have_float (members_view l.key-iterator) ≡ false)
