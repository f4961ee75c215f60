use Rattle.std.proofs.Common.{◌∙◌, ap, sym, map}
use Rattle.keyed_queues.specs.Lists as queues
use Rattle.boards.proofs.Shutting.{all_added_shut}
use Rattle.boards.proofs.board.Board.add_all.Goals as goal

pub invariant_of-self : goal.invariant_of-self
invariant_of-self g c = c.self.invariant ∙ sym (ap (λ w. w.is_shut) c.in_err-add_all.ensures.err)

pub invariant_of-self-2 : goal.invariant_of-self-2
invariant_of-self-2 g c =
    let R = g.K.Named.order in
    let say = g.K.Named.says in
    c.self.invariant ∙ sym (ap (λ w. w.is_shut) c.in_ok-add_all.ensures.ok ∙ all_added_shut R (map say c.args.keys.now) (queues.said R say c.self.inside.queue))
