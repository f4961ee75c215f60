use Rattle.std.proofs.Common.{ap, ◌∙◌, map, arith}
use Rattle.std.proofs.lemmas.Result.{on_ok_weaker}
use Rattle.spec_client_go.specs.WorkQueues.{work_key_cmp}
use Rattle.object_keys.specs.WorkKeys.{work_key_of}
use Rattle.boards.specs.Boards.{with_notes, finished}
use Rattle.boards.specs.Said.{said}
use Rattle.boards.specs.declared.outcome.Outcome.TheVariants.{Failed}
use Rattle.work_board.specs.Instance.{work_board}
use Rattle.work_board.specs.Later.{requeued_after}
use Rattle.work_board.specs.Seen.{observation_of}
use Rattle.work_board.proofs.Instance.{noted, requeues}
use Rattle.work_board.proofs.board.Board.requeue_after.Goals as goal

pub returns-clause-ok : goal.returns-clause-ok
returns-clause-ok c =
    let ss = c.args.undone.now in
    let k = work_key_of c.args.key.now in
    let b = said work_key_cmp work_key_of c.self.inside.keys in
    on_ok_weaker c.finish_noting.result
    (λ e.
    ap work_board e
    ∙ ap (λ least. work_board (with_notes noted ss (finished k (Failed least) b))) c.from-at_least.ensures
    ∙ requeues k ss c.args.least b c.self.invariant (grind arith)
    ∙ ap (requeued_after k (map observation_of ss) c.args.least) c.self.view_is)
    c.finish_noting.ensures.ok
