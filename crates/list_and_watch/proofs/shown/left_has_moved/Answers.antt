use Rattle.std.proofs.Common.{option_map, map, sym, ap, ◌∙◌}
use Rattle.object_keys.specs.Keys.{key_of}
use Rattle.indexer.specs.Shifted.{shift_of}
use Rattle.list_and_watch.specs.Recognized.{has_moved}
use Rattle.list_and_watch.proofs.NotMoved.{not_moved}
use Rattle.list_and_watch.proofs.shown.left_has_moved.Goals as goal

pub returns-else-may_be_placed : goal.returns-else-may_be_placed
returns-else-may_be_placed c =
    let key = key_of c.args.shift.now.key in
    let ts = map shift_of c.args.shifts.now in
    c.if-may_be_placed.false ∙ sym (not_moved c.args.uids.now c.in-Some.uid.now key ts c.requires (sym c.may_be_placed.ensures ∙ c.if-may_be_placed.false))
    ∙ ap (λ o. has_moved o key ts) (sym (ap (option_map (λ s. s.now)) c.in-Some.is) ∙ c.uid_left.ensures)
