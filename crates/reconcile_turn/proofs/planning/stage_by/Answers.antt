use Rattle.std.proofs.Common.{map, ap}
use Rattle.std.specs.Arc.{arc_value}
use Rattle.reconcile_types.specs.Commands.{commands_of}
use Rattle.reconcile_types.specs.Hands.{hand_of, reads_of}
use Rattle.object_keys.specs.WorkKeys.{work_key_of}
use Rattle.reconcile_turn.specs.Seen.{sight_of}
use Rattle.reconcile_turn.specs.Stages.{turn_of}
use Rattle.reconcile_turn.proofs.Phases.{to_read, to_issue}
use Rattle.reconcile_turn.proofs.planning.stage_by.Goals as goal

pub returns-in-Some : goal.returns-in-Some
returns-in-Some c =
    let known = c.args.known.now in
    let t = turn_of (work_key_of c.args.key.now) (map sight_of c.args.sights.now) (reads_of known.reads.items) in
    to_read t (hand_of (λ i. i) known) c.in_ok-asked.asked.items c.deref.result.now c.in-Some.first.now _ c.requires.seen c.requires.same c.in_ok-asked.ensures c.deref.ensures.value c.in-Some.ensures.value
    c.in_ok-try_copy.ensures

pub returns : goal.returns
returns c =
    let known = c.args.known.now in
    to_issue (work_key_of c.args.key.now) (map sight_of c.args.sights.now) (reads_of known.reads.items) (hand_of (λ i. i) known) c.in_ok-asked.asked.items c.deref.result.now
    (commands_of c.in_ok-plan.plan) (commands_of (arc_value c.in_ok-new.field-0)) c.expects_pods-expects_pods.result c.requires.seen
    c.requires.same c.in_ok-asked.ensures c.deref.ensures.value c.in_default.ensures.value c.in_ok-plan.ensures (ap commands_of c.in_ok-new.ensures.ok) c.expects_pods-expects_pods.ensures
