use Rattle.std.proofs.Common.{◌∙◌}
use Rattle.server.proofs.NewestUndone.{newest_undone}
use Rattle.server.proofs.undoing.undone.Goals as goal

pub loop-change-preserved : goal.loop-change-preserved
loop-change-preserved c =
    newest_undone c.loop-change.objects c.undo.new.objects c.loop-change.left.items c.pop.new.self.items c.in-Some.change c.in-Some.ensures.items c.in_ok-undo.ensures
    ∙ c.loop-change.invariant
