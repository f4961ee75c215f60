use Rattle.std.proofs.Common.{◌≡◌, drop}
use Rattle.boards.specs.Boards.{all_noted}
use Rattle.boards.proofs.board.note_all.Given as goal

-- with those that are left to note, it is all
abbrev pub invariant-loop-note : goal.invariant-loop-note
invariant-loop-note g l = all_noted g.S.SideTable.noted (drop l.note-index l.notes) l.side ≡ all_noted g.S.SideTable.noted l.notes l.fn.side
