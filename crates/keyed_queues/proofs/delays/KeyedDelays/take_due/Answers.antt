use Rattle.std.proofs.Common.{ap, sym, ◌∙◌, subst, map, arith}
use Rattle.std.proofs.lemmas.Bool.Decides.{nat_tests}
use Rattle.keyed_queues.specs.Delays.{AreAlarms, due, still_delayed}
use Rattle.keyed_queues.specs.Numbers.{said}
use Rattle.keyed_queues.specs.Said.{alarm_said}
use Rattle.spec_client_go.proofs.Due.{none_due, all_still, none_due_yet, all_still_delayed}
use Rattle.keyed_queues.proofs.DelaySteps.{head_is, no_keys, comes, left_are, first_due, same_left}
use Rattle.keyed_queues.proofs.delays.KeyedDelays.take_due.Goals as goal

pub returns-in_default-clause-none : goal.returns-in_default-clause-none
returns-in_default-clause-none g c =
    let m = g.met.K.Named in
    let R = g.K.Named.order in
    let say = g.K.Named.says in
    let es = c.self.inside.moments.entries in
    let none = no_keys c.self.inside.alarms.keys (λ some. let h = c.in_default.ensures.variant.1 some in cc) in
    ap (λ l. due c.args.now (said R say l)) (sym c.self.view_is)
    ∙ none_due R m.ordered m.apart c.args.now (said R say es) (subst (λ ks. AreAlarms R (said R say es) (map (alarm_said say) ks)) none c.self.invariant)

pub returns-in_default-clause-all : goal.returns-in_default-clause-all
returns-in_default-clause-all g c =
    let m = g.met.K.Named in
    let R = g.K.Named.order in
    let say = g.K.Named.says in
    let es = c.self.inside.moments.entries in
    let none = no_keys c.self.inside.alarms.keys (λ some. let h = c.in_default.ensures.variant.1 some in cc) in
    sym
    (ap (λ l. still_delayed c.args.now (said R say l)) (sym c.self.view_is)
    ∙ all_still R m.ordered m.apart c.args.now (said R say es) (subst (λ ks. AreAlarms R (said R say es) (map (alarm_said say) ks)) none c.self.invariant)
    ∙ ap (said R say) c.self.view_is)

pub returns-then-first-now-clause-none : goal.returns-then-first-now-clause-none
returns-then-first-now-clause-none g c =
    let m = g.met.K.Named in
    let R = g.K.Named.order in
    let say = g.K.Named.says in
    let es = c.self.inside.moments.entries in
    let head = head_is c.self.inside.alarms.keys c.in-Some.first.now c.in-Some.ensures.first in
    ap (λ l. due c.args.now (said R say l)) (sym c.self.view_is)
    ∙ none_due_yet R m.ordered m.apart c.args.now (said R say es) (alarm_said say c.in-Some.first.now) (map (alarm_said say) head.0) (subst (λ ks. AreAlarms R (said R say es) (map (alarm_said say) ks)) head.1 c.self.invariant)
    (grind (arith, nat_tests, c.if-first-now.true))

pub returns-then-first-now-clause-all : goal.returns-then-first-now-clause-all
returns-then-first-now-clause-all g c =
    let m = g.met.K.Named in
    let R = g.K.Named.order in
    let say = g.K.Named.says in
    let es = c.self.inside.moments.entries in
    let head = head_is c.self.inside.alarms.keys c.in-Some.first.now c.in-Some.ensures.first in
    sym
    (ap (λ l. still_delayed c.args.now (said R say l)) (sym c.self.view_is)
    ∙ all_still_delayed R m.ordered m.apart c.args.now (said R say es) (alarm_said say c.in-Some.first.now) (map (alarm_said say) head.0) (subst (λ ks. AreAlarms R (said R say es) (map (alarm_said say) ks)) head.1 c.self.invariant)
    (grind (arith, nat_tests, c.if-first-now.true))
    ∙ ap (said R say) c.self.view_is)

pub invariant_of-self-2 : goal.invariant_of-self-2
invariant_of-self-2 g c =
    let m = g.met.K.Named in
    left_are g.K.Named.order m.ordered m.apart g.K.Named.says g.K.Ord.cmp m.alike c.self.inside.moments.entries c.remove.new.self.entries c.self.inside.alarms.keys c.pop_first.new.self.keys c.in_ok-key.field-0 c.self.invariant c.in_ok-key.ensures.removal c.remove.ensures.updates.1
    c.remove.ensures.updates.3

pub returns-clause-first : goal.returns-clause-first
returns-clause-first g c =
    let m = g.met.K.Named in
    let R = g.K.Named.order in
    let say = g.K.Named.says in
    ap (λ l. due c.args.now (said R say l)) (sym c.self.view_is)
    ∙ first_due R m.ordered m.apart say g.K.Ord.cmp m.alike c.self.inside.moments.entries c.remove.new.self.entries c.self.inside.alarms.keys c.pop_first.new.self.keys c.in_ok-key.field-0 c.self.invariant c.in_ok-key.ensures.removal c.remove.ensures.updates.1 c.remove.ensures.updates.3 c.args.now
    (comes c.self.inside.alarms.keys c.pop_first.new.self.keys c.in-Some.first.now c.in_ok-key.field-0 c.args.now c.in-Some.ensures.first c.in_ok-key.ensures.removal (omega (arith, c.if-first-now.false)))

pub returns-clause-rest : goal.returns-clause-rest
returns-clause-rest g c =
    let m = g.met.K.Named in
    let R = g.K.Named.order in
    let say = g.K.Named.says in
    same_left R m.ordered m.apart say g.K.Ord.cmp m.alike c.self.inside.moments.entries c.remove.new.self.entries c.self.inside.alarms.keys c.pop_first.new.self.keys c.in_ok-key.field-0 c.self.invariant c.in_ok-key.ensures.removal c.remove.ensures.updates.1 c.remove.ensures.updates.3 c.args.now
    (comes c.self.inside.alarms.keys c.pop_first.new.self.keys c.in-Some.first.now c.in_ok-key.field-0 c.args.now c.in-Some.ensures.first c.in_ok-key.ensures.removal (omega (arith, c.if-first-now.false)))
    ∙ ap (λ l. still_delayed c.args.now (said R say l)) c.self.view_is
