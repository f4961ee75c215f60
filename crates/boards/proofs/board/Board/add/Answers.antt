use Rattle.std.proofs.Common.{◌∙◌, ap, sym}
use Rattle.keyed_queues.specs.Lists as queues
use Rattle.boards.proofs.Shutting.{added_shut}
use Rattle.boards.proofs.board.Board.add.Goals as goal

pub invariant_of-self : goal.invariant_of-self
invariant_of-self g c = c.self.invariant ∙ sym (ap (λ w. w.is_shut) c.in_err-add.ensures.err)

pub invariant_of-self-2 : goal.invariant_of-self-2
invariant_of-self-2 g c =
    let R = g.K.Named.order in
    let say = g.K.Named.says in
    c.self.invariant ∙ sym (ap (λ w. w.is_shut) c.in_ok-add.ensures.ok ∙ added_shut R (say c.args.key) (queues.said R say c.self.inside.queue))
