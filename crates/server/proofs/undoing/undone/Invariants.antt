use Rattle.std.proofs.Common.{◌≡◌, length, map}
use Rattle.watch_cache.specs.Changes.{change_seen}
use Rattle.server.specs.PageTexts.{shown_before}
use Rattle.server.proofs.undoing.undone.Given as goal

-- what is left to undo gives, of what there is so far, what all gives
abbrev pub invariant-loop-change : goal.invariant-loop-change
invariant-loop-change l = shown_before l.objects (map change_seen l.left.items) ≡ shown_before l.fn.objects (map change_seen l.fn.changes.items)

abbrev pub decreases-loop-change : goal.decreases-loop-change
decreases-loop-change l = length l.left.items
