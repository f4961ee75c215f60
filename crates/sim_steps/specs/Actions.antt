-- Workers' actions as code has them.
use Rattle.spec_sim.specs.Managers as managers
use Rattle.sim_steps.specs.declared.actions.Action.{Action}
use Rattle.sim_steps.specs.declared.actions.Action.TheVariants.{Take, Look, AskSatisfied, ReadLive, Expect, Issue, Finish}
use Rattle.sim_steps.specs.declared.actions.Delivery.{Delivery}
use Rattle.sim_steps.specs.declared.actions.Delivery.TheVariants.{Delivered, AnswerLost, Dropped}

abbrev pub delivery_of : Delivery → managers.Delivery
delivery_of Delivered = managers.delivered
delivery_of AnswerLost = managers.answer_lost
delivery_of Dropped = managers.dropped

abbrev pub action_of : Action → managers.Action
action_of Take = managers.take
action_of (Look k) = managers.look k
action_of AskSatisfied = managers.ask_satisfied
action_of ReadLive = managers.read_live
action_of Expect = managers.expect
action_of (Issue d) = managers.issue (delivery_of d)
action_of Finish = managers.finish
