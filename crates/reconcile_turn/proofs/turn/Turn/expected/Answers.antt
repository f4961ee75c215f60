use Rattle.std.proofs.Common.{◌≡◌, ◌∙◌, ◌<◌, ◌^◌, List, length, map, filter, Some, option_map, sym, ap, subst}
use Rattle.std.specs.Arc.{arc_value}
use Rattle.spec_client_go.specs.Commands as commands
use Rattle.work_board.specs.Seen.{owner_of}
use Rattle.spec_sim.specs.Turns.{owner, creates_pod}
use Rattle.reconcile_types.specs.Commands.{command_of, commands_of}
use Rattle.reconcile_turn.specs.Pods.{commands_lent}
use Rattle.reconcile_turn.proofs.Phases.{few_creations}
use Rattle.reconcile_turn.proofs.Turning.{planned_now}
use Rattle.reconcile_turn.proofs.turn.Turn.expected.Goals as goal

pub expected_of-requires : goal.expected_of-requires
expected_of-requires c =
    let t = c.args.self.now in
    let cs = commands_of (arc_value c.in-Planned.plan) in
    let p = planned_now c.self.inside t c.in-Planned.plan c.in-Planned.expects_pods c.self.view_is c.self.invariant c.in-Planned.is in
    let owned : owner t ≡ Some (owner_of c.in-Some.owner) = sym c.in_ok-owner.ensures ∙ ap (option_map owner_of) c.in-Some.is in
    let all : commands_lent c.as_slice-2.result.now ≡ cs =
    ap commands_lent c.as_slice-2.ensures.value ∙ c.in_ok-commands.ensures ∙ ap (map command_of) c.as_slice.ensures.value ∙ ap commands_of c.deref.ensures in
    subst (λ (ds : List commands.Command). length (filter creates_pod ds) < 2 ^ 32) (sym all) (few_creations t cs (owner_of c.in-Some.owner) p.is_in.commands owned)
