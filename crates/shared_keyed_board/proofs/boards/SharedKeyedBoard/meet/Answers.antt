use Rattle.std.proofs.Common.{ap}
use Rattle.shared_keyed_board.specs.Passes.{known, sight_of}
use Rattle.shared_keyed_board.proofs.Passing.{meet_apart, meet_told}
use Rattle.shared_keyed_board.proofs.boards.SharedKeyedBoard.meet.Goals as goal

pub returns-clause-one : goal.returns-clause-one
returns-clause-one g c = ap (λ z. sight_of g.K.Named.says z.own) c.meet.ensures.one

pub returns-clause-other : goal.returns-clause-other
returns-clause-other g c = ap (λ z. sight_of g.K.Named.says z.own) c.meet.ensures.other

pub returns-clause-apart : goal.returns-clause-apart
returns-clause-apart g c k a b =
    let m = g.met.K.Named in meet_apart g.K.Named.order g.K.Named.says m.ordered m.apart (known c.meet.new.one) (known c.meet.new.other) c.meet.ensures.met k a b

pub returns-clause-met : goal.returns-clause-met
returns-clause-met g c = meet_told g.K.Named.order g.K.Named.says (known c.meet.new.one) (known c.meet.new.other) c.meet.ensures.met
