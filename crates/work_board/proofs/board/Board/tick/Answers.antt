use Rattle.std.proofs.Common.{ap, ◌∙◌, ◌+◌, arith}
use Rattle.std.proofs.lemmas.Bool.Decides.{nat_tests}
use Rattle.spec_client_go.specs.Boards as works
use Rattle.spec_client_go.specs.WorkQueues.{work_key_cmp}
use Rattle.object_keys.specs.WorkKeys.{work_key_of}
use Rattle.boards.specs.Boards.{ticked}
use Rattle.boards.specs.Said.{said}
use Rattle.work_board.specs.Instance.{work_board}
use Rattle.work_board.proofs.Instance.{ticks}
use Rattle.work_board.proofs.board.Board.tick.Goals as goal

pub returns-clause-ok : goal.returns-clause-ok
returns-clause-ok c =
    let b = said work_key_cmp work_key_of c.self.inside.keys in
    ap work_board c.in_ok-tick.ensures.ok
    ∙ ap (λ t. work_board (ticked (t + c.args.milliseconds) b)) c.time-before.ensures
    ∙ ticks c.args.milliseconds b (grind (arith, nat_tests, c.if-milliseconds-before.false, c.time-before.ensures, c.self.invariant))
    ∙ ap (works.ticked c.args.milliseconds) c.self.view_is
