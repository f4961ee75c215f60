use Rattle.reconcile_turn.proofs.Turning.{answer_invariant, answer_view}
use Rattle.reconcile_turn.proofs.turn.Turn.answer.Goals as goal

pub invariant_of-self-2 : goal.invariant_of-self-2
invariant_of-self-2 c =
    answer_invariant c.self.inside c.args.self.now c.push.new.self.items c.in_ok-shared.shared c.args.answer c.is_accepted-is_accepted.result c.self.view_is c.self.invariant c.requires c.in_ok-push.ensures.items
    c.in_ok-shared.ensures.ok c.is_accepted-is_accepted.ensures

pub returns-clause-ok : goal.returns-clause-ok
returns-clause-ok c =
    answer_view c.self.inside c.args.self.now c.push.new.self.items c.in_ok-shared.shared c.args.answer c.self.view_is c.self.invariant c.requires c.in_ok-push.ensures.items c.in_ok-shared.ensures.ok
