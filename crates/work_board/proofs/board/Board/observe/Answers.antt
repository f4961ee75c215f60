use Rattle.std.proofs.Common.{ap, ◌∙◌, map}
use Rattle.std.proofs.lemmas.Result.{on_ok_weaker}
use Rattle.spec_client_go.specs.Boards.{observed}
use Rattle.spec_client_go.specs.WorkQueues.{work_key_cmp}
use Rattle.object_keys.specs.WorkKeys.{work_key_of}
use Rattle.boards.specs.Said.{said}
use Rattle.work_board.specs.Instance.{work_board}
use Rattle.work_board.specs.Seen.{observation_of}
use Rattle.work_board.proofs.Instance.{observes}
use Rattle.work_board.proofs.board.Board.observe.Goals as goal

pub returns-clause-ok : goal.returns-clause-ok
returns-clause-ok c =
    let ss = c.args.observations.now in
    let ks = map work_key_of c.args.keys.now in
    on_ok_weaker c.add_noting.result (λ e. ap work_board e ∙ observes ss ks (said work_key_cmp work_key_of c.self.inside.keys) ∙ ap (observed (map observation_of ss) ks) c.self.view_is) c.add_noting.ensures.ok
