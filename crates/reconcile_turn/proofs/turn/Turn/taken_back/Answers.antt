use Rattle.std.proofs.Common.{◌≡◌, ◌∙◌, List, map, Option, Some, option_map, sym, ap}
use Rattle.std.specs.Arc.{arc_value}
use Rattle.std.specs.Global.{Global}
use Rattle.std.specs.declared.sync.Arc.{Arc}
use Rattle.spec_client_go.specs.Commands as commands
use Rattle.spec_client_go.specs.Expectations as expectations
use Rattle.work_board.specs.Seen.{owner_of}
use Rattle.spec_sim.specs.Turns.{owner, taken_back, taken_back_by, undone}
use Rattle.reconcile_types.specs.Commands.{command_of, commands_of}
use Rattle.reconcile_turn.specs.Answers.{answers_of, undone_of}
use Rattle.reconcile_turn.specs.Pods.{commands_lent}
use Rattle.reconcile_turn.specs.declared.answers.CommandAnswer.{CommandAnswer}
use Rattle.reconcile_turn.proofs.Turning.{planned_now, undone_now}
use Rattle.reconcile_turn.proofs.turn.Turn.taken_back.Goals as goal

pub returns : goal.returns
returns c =
    let t = c.args.self.now in
    let cs = commands_of (arc_value c.in-Planned.plan) in
    let as' = answers_of c.self.inside.answers.items in
    let o = owner_of c.in-Some.owner in
    let p = planned_now c.self.inside t c.in-Planned.plan c.in-Planned.field-1 c.self.view_is c.self.invariant c.in-Planned.is in
    let owned : owner t ≡ Some o = sym c.in_ok-owner.ensures ∙ ap (option_map owner_of) c.in-Some.is in
    let all : commands_lent c.as_slice-3.result.now ≡ undone_of cs as' =
    ap commands_lent c.as_slice-3.ensures.value ∙ c.in_ok-commands.ensures ∙ ap (λ (ds : List commands.Command). undone_of ds (answers_of c.as_slice-2.result.now)) (ap (map command_of) c.as_slice.ensures.value ∙ ap commands_of c.deref.ensures)
    ∙ ap (λ (bs : List (Arc CommandAnswer Global)). undone_of cs (answers_of bs)) c.as_slice-2.ensures.value in
    let e : taken_back t ≡ taken_back_by (Some o) (commands_lent c.as_slice-3.result.now) =
    ap (λ (o : Option expectations.Owner). taken_back_by o (undone t)) owned
    ∙ ap (taken_back_by (Some o)) (undone_now t cs c.in-Planned.field-1 as' c.self.inside.is_accepted p ∙ sym all) in
    rw e c.taken_back_of.ensures
