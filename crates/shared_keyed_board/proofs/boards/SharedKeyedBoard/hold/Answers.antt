use Rattle.crossbeam_queue.specs.Passes.{view}
use Rattle.shared_keyed_board.proofs.Passing.{looked, board_of, latest_of, holds_of, made_of, happened_of}
use Rattle.shared_keyed_board.proofs.boards.SharedKeyedBoard.hold.Goals as goal

pub returns-clause-pass : goal.returns-clause-pass
returns-clause-pass g c =
    let R = g.K.Named.order in
    let say = g.K.Named.says in
    let v = view c.args.pass.now in
    let w = view c.take.new.pass in
    let t = c.take.ensures.taken in
    record {
      pass = c.take.ensures.pass.1;
      holds = holds_of R say v w c.take.result t;
      made = made_of R say v w c.take.result t;
      happened = happened_of R say v w c.take.result t;
    }

pub returns-clause-board : goal.returns-clause-board
returns-clause-board g c =
    let R = g.K.Named.order in
    let say = g.K.Named.says in
    let v = view c.args.pass.now in
    let w = view c.take.new.pass in
    let t = c.take.ensures.taken in
    record { said = board_of R say v w c.take.result t c.requires.0.1; latest = latest_of R say v w c.take.result t }

pub returns-clause-looked : goal.returns-clause-looked
returns-clause-looked g c =
    looked g.K.Named.order g.K.Named.says (view c.args.pass.now) (view c.take.new.pass) c.take.result c.take.ensures.taken
