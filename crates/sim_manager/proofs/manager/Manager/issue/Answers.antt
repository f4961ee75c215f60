use Rattle.std.proofs.Common.{◌≡◌, ◌∙◌, sym, ap, subst, option_map, Some}
use Rattle.spec_sim.specs.Managers.{Manager}
use Rattle.sim_steps.specs.Actions.{delivery_of}
use Rattle.sim_manager.specs.Issuing.{coming_of}
use Rattle.sim_worker_slots.specs.Slots.{turn_of}
use Rattle.sim_manager.proofs.Issues.{slot_within, writes_it, manager_made, told_made, cluster_made}
use Rattle.sim_manager.specs.Outcomes.{outcome_of}
use Rattle.sim_manager.specs.declared.told_outcomes.ToldOutcome.{ToldOutcome}
use Rattle.sim_manager.proofs.manager.Manager.issue.Goals as goal

pub make-requires-clause-write : goal.make-requires-clause-write
make-requires-clause-write c =
    writes_it c.args.cluster.now c.args.worker (delivery_of c.args.delivery) c.in-Some.turn.now c.args.self.now (coming_of c.in-Some-2.issuing)
    (subst (λ (m : Manager). turn_of c.args.worker m.turns ≡ Some c.in-Some.turn.now) c.self.view_is (sym c.in-Some.ensures)) (sym (ap (option_map coming_of) c.in-Some-2.is) ∙ c.in_ok-issuing.ensures)
    c.requires.asked

pub make-requires-clause-worker : goal.make-requires-clause-worker
make-requires-clause-worker c =
    slot_within c.args.worker c.args.self.now.turns c.in-Some.turn.now (subst (λ (m : Manager). turn_of c.args.worker m.turns ≡ Some c.in-Some.turn.now) c.self.view_is (sym c.in-Some.ensures))

pub returns-clause-ok : goal.returns-clause-ok
returns-clause-ok c =
    manager_made c.args.cluster.now c.args.worker (delivery_of c.args.delivery) c.in-Some.turn.now c.args.self.now (coming_of c.in-Some-2.issuing)
    (subst (λ (m : Manager). turn_of c.args.worker m.turns ≡ Some c.in-Some.turn.now) c.self.view_is (sym c.in-Some.ensures)) (sym (ap (option_map coming_of) c.in-Some-2.is) ∙ c.in_ok-issuing.ensures)
    c.make.result c.make.new.self c.make.ensures.ok

pub returns-clause-told : goal.returns-clause-told
returns-clause-told c =
    told_made c.args.cluster.now c.args.worker (delivery_of c.args.delivery) c.in-Some.turn.now c.args.self.now (coming_of c.in-Some-2.issuing)
    (subst (λ (m : Manager). turn_of c.args.worker m.turns ≡ Some c.in-Some.turn.now) c.self.view_is (sym c.in-Some.ensures)) (sym (ap (option_map coming_of) c.in-Some-2.is) ∙ c.in_ok-issuing.ensures)
    (λ (t : ToldOutcome). outcome_of t.outcome) c.make.result c.make.ensures.told

pub returns-clause-cluster : goal.returns-clause-cluster
returns-clause-cluster c =
    cluster_made c.args.cluster.now c.args.worker (delivery_of c.args.delivery) c.in-Some.turn.now c.args.self.now (coming_of c.in-Some-2.issuing)
    (subst (λ (m : Manager). turn_of c.args.worker m.turns ≡ Some c.in-Some.turn.now) c.self.view_is (sym c.in-Some.ensures)) (sym (ap (option_map coming_of) c.in-Some-2.is) ∙ c.in_ok-issuing.ensures)
    c.make.result c.make.new.cluster c.make.ensures.cluster
