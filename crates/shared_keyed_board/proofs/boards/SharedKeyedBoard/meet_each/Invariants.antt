use Rattle.std.proofs.Common.{◌≡◌, ◌+◌, ◌≤◌, ◌++◌, map, All}
use Rattle.std.specs.Prelude.{reverse}
use Rattle.std.specs.Vec.{vec_len, vec_capacity}
use Rattle.shared_keyed_board.specs.Calls.{HaveMet}
use Rattle.shared_keyed_board.specs.Passes.{sight, IsPassAt}
use Rattle.shared_keyed_board.proofs.boards.SharedKeyedBoard.meet_each.Given as goal

-- those that are left, the last first, follow those that have met the pass
abbrev pub invariant-loop-other : goal.invariant-loop-other
invariant-loop-other g l =
    let says = g.K.Named.says in
    record {
      one : IsPassAt l.self l.one;
      same : sight says l.one ≡ sight says l.fn.one;
      left : All (IsPassAt l.self) l.from.items;
      over : All (IsPassAt l.self) l.to.items;
      moved : map (sight says) l.to.items ++ reverse (map (sight says) l.from.items) ≡ reverse (map (sight says) l.fn.from.items);
      met : All (HaveMet g.K.Named.order (sight says l.fn.one)) (map (sight says) l.to.items);
      count : vec_len l.to + vec_len l.from ≡ vec_len l.fn.from;
      room : vec_len l.fn.from ≤ vec_capacity l.to;
      capacity : vec_capacity l.from ≡ vec_capacity l.fn.from;
    }

abbrev pub decreases-loop-other : goal.decreases-loop-other
decreases-loop-other g l = vec_len l.from
