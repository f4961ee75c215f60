use Rattle.std.proofs.Common.{◌≡◌, ◌∙◌, ◌++◌, ◌+◌, suc, List, ◌≤◌, length, map, drop, refl, sym, ap, Option, Some, option_map, append-nil, arith, Vec}
use Rattle.std.proofs.lemmas.List.{length-map, map-append}
use Rattle.std.specs.Global.{Global}
use Rattle.std.proofs.lemmas.Option.{slice_get_read, slice_get-map}
use Rattle.std.specs.Borrow.{Bor}
use Rattle.std.specs.List.{slice_get}
use Rattle.spec_client_go.specs.Commands as commands
use Rattle.reconcile_types.specs.Commands.{command_of}
use Rattle.reconcile_types.specs.declared.commands.Command.{Command}
use Rattle.reconcile_turn.specs.Answers.{answers_of, undone_of}
use Rattle.reconcile_turn.specs.Pods.{commands_lent}
use Rattle.reconcile_turn.proofs.Issues.{undone_more, undone_same, undone_past}
use Rattle.reconcile_turn.proofs.observing.undone.Goals as goal
use Rattle.reconcile_turn.proofs.observing.undone.Goals.{then-is_undone+in_ok-push, else-is_undone}

pub loop-place-preserved : goal.loop-place-preserved
loop-place-preserved c =
    let cs = map command_of c.args.commands.now in
    let as' = answers_of c.args.answers.now in
    let i = c.loop-place.place in
    let x = command_of c.index-commands-place.result in
    let next : i + 1 ≡ suc i = omega arith in
    let at : slice_get cs i ≡ Some x =
    slice_get-map command_of c.args.commands.now i
    ∙ ap (λ (o : Option Command). option_map command_of o)
    (slice_get_read c.args.commands.now (length c.args.commands.now) i c.index-commands-place.result refl c.loop-place-test.true c.index-commands-place.is) in
    elim c.if-is_undone.branch [
      | then-is_undone+in_ok-push w ↦
          undone_more cs as' i (i + 1) x (commands_lent c.loop-place.left.items) (commands_lent c.if-is_undone.left.items) (undone_of cs as') next at (sym c.is_undone.ensures ∙ w.if-is_undone.true)
          (ap (λ (v : Vec (Bor Command) Global). commands_lent v.items) w.left-is ∙ ap commands_lent w.in_ok-push.ensures.items ∙ map-append (λ (b : Bor Command). command_of b.now) c.loop-place.left.items _)
          c.loop-place.invariant
      | else-is_undone w ↦
          undone_same cs as' i (i + 1) x (commands_lent c.loop-place.left.items) (commands_lent c.if-is_undone.left.items) (undone_of cs as') next at (sym c.is_undone.ensures ∙ w.if-is_undone.false)
          (ap (λ (v : Vec (Bor Command) Global). commands_lent v.items) w.left-is) c.loop-place.invariant
    ]

pub returns : goal.returns
returns c =
    let cs = map command_of c.args.commands.now in
    let as' = answers_of c.args.answers.now in
    let i = c.loop-place.place in
    let past : length cs ≤ i = omega (arith, length-map c.args.commands.now command_of) in
    sym (append-nil (commands_lent c.loop-place.left.items)) ∙ ap (λ (ds : List commands.Command). commands_lent c.loop-place.left.items ++ ds) (sym (undone_past cs (drop i as') i past))
    ∙ c.loop-place.invariant
