use Rattle.std.proofs.Common.{◌≡◌, ◌∙◌, ◌&&◌, false, not, ap, subst, drop, length, Bool, arith}
use Rattle.std.proofs.lemmas.List.{length-map}
use Rattle.std.specs.Global.{Global}
use Rattle.std.specs.declared.sync.Arc.{Arc}
use Rattle.spec_sim.specs.NextSteps.{issuing}
use Rattle.reconcile_types.specs.declared.commands.Plan.{Plan}
use Rattle.reconcile_turn.specs.NextCommands.{IsCommandNext}
use Rattle.reconcile_turn.specs.Seen.{answer_of}
use Rattle.reconcile_turn.specs.declared.answers.CommandAnswer.{CommandAnswer}
use Rattle.std.specs.Arc.{arc_value}
use Rattle.reconcile_types.specs.Commands.{commands_of}
use Rattle.reconcile_turn.specs.Answers.{answers_of}
use Rattle.reconcile_turn.proofs.Phases.{next_expects, next_command}
use Rattle.reconcile_turn.proofs.Turning.{planned_now, has_expected_now}
use Rattle.reconcile_turn.proofs.turn.Turn.next.Goals as goal
use Rattle.reconcile_turn.proofs.turn.Turn.next.Goals.{else-expects_pods-via-then-expects_pods+else-not-self, else-expects_pods-via-else-expects_pods}

pub returns-then-not-self : goal.returns-then-not-self
returns-then-not-self c =
    let t = c.args.self.now in
    let p = planned_now c.self.inside t c.in-Planned.plan c.in-Planned.expects_pods c.self.view_is c.self.invariant c.in-Planned.is in
    let n = next_expects t (commands_of (arc_value c.in-Planned.plan)) c.in-Planned.expects_pods p.is_in c.if-expects_pods.true (has_expected_now c.self.inside t c.self.view_is ∙ c.if-not-self.true) in
    (n.0, n.2)

nothing : (b h g : Bool) → h ≡ g → (b && not g) ≡ false → (b && not h) ≡ false
nothing b h g same none = ap (λ (x : Bool). b && not x) same ∙ none

pub returns-else-expects_pods : goal.returns-else-expects_pods
returns-else-expects_pods c =
    let t = c.args.self.now in
    let cs = commands_of (arc_value c.in-Planned.plan) in
    let b = c.in-Planned.expects_pods in
    let p = planned_now c.self.inside t c.in-Planned.plan b c.self.view_is c.self.invariant c.in-Planned.is in
    let none : (b && not c.self.inside.has_expected) ≡ false =
    elim c.else-expects_pods.branch [
      | else-expects_pods-via-then-expects_pods+else-not-self w ↦ grind (arith, w.if-expects_pods, w.if-not-self)
      | else-expects_pods-via-else-expects_pods w ↦ grind (arith, w.if-expects_pods)
    ] in
    let len : c.len-in-Planned.result ≡ length (answers_of c.self.inside.answers.items) = omega (arith, length-map c.self.inside.answers.items (λ (a : Arc CommandAnswer Global). answer_of (arc_value a))) in
    next_command c.next_command.result t cs b (answers_of c.self.inside.answers.items) c.self.inside.is_accepted c.len-in-Planned.result p.is_in p.issues p.fits p.accepted
    (nothing b t.has_expected c.self.inside.has_expected (has_expected_now c.self.inside t c.self.view_is) none) len
    (subst (λ (p : Plan). IsCommandNext c.next_command.result (issuing c.self.inside.is_accepted (drop c.len-in-Planned.result (commands_of p)))) c.deref.ensures c.next_command.ensures)
