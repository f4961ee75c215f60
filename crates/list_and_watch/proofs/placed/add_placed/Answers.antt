use Rattle.std.proofs.Common.{◌||◌, Some, option_map, sym, ap, ◌∙◌}
use Rattle.list_and_watch.specs.Placed.{is_placed}
use Rattle.list_and_watch.specs.Recognized.{is_same_text}
use Rattle.list_and_watch.proofs.NotMoved.{added}
use Rattle.list_and_watch.proofs.placed.add_placed.Goals as goal

pub returns-in_ok-insert : goal.returns-in_ok-insert
returns-in_ok-insert c =
    λ u. added c.in-Some.uid c.args.uids.now c.insert.new.self c.in_ok-insert.ensures.updates u
    ∙ ap (λ o. is_same_text (Some u) o || is_placed c.args.uids.now u) (sym (ap (option_map (λ s. s.now)) c.in-Some.is) ∙ c.uid_in.ensures)
