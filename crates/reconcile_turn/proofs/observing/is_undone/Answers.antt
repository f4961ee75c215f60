use Rattle.std.proofs.Common.{◌≡◌, ◌∙◌, ◌<◌, ◌≤◌, length, refl, sym, ap, Option, Some, option_map, arith}
use Rattle.std.specs.Arc.{arc_value}
use Rattle.std.specs.Global.{Global}
use Rattle.std.specs.declared.sync.Arc.{Arc}
use Rattle.std.proofs.lemmas.Option.{slice_get_past, slice_get_read, slice_get-map}
use Rattle.spec_sim.specs.Turns as turns
use Rattle.reconcile_turn.specs.Answers.{is_undone}
use Rattle.reconcile_turn.specs.Seen.{answer_of}
use Rattle.reconcile_turn.specs.declared.answers.CommandAnswer.{CommandAnswer}
use Rattle.std.specs.List.{slice_get}
use Rattle.reconcile_turn.proofs.observing.is_undone.Goals as goal

pub returns-in-Some : goal.returns-in-Some
returns-in-Some c =
    let as' = c.args.answers.now in
    let f = λ (a : Arc CommandAnswer Global). answer_of (arc_value a) in
    let within : c.args.place < length as' = grind arith in
    let at : slice_get as' c.args.place ≡ Some c.in-Some.answer.now = slice_get_read as' (length as') c.args.place c.in-Some.answer.now refl within c.in-Some.ensures.lookup.1 in
    c.is_refused.ensures ∙ ap (λ (x : CommandAnswer). turns.is_refused (answer_of x)) c.deref.ensures ∙ sym (ap is_undone (slice_get-map f as' c.args.place ∙ ap (λ (o : Option (Arc CommandAnswer Global)). option_map f o) at))

pub returns-in-None : goal.returns-in-None
returns-in-None c =
    let as' = c.args.answers.now in
    let f = λ (a : Arc CommandAnswer Global). answer_of (arc_value a) in
    let past : length as' ≤ c.args.place = grind arith in
    sym (ap is_undone (slice_get-map f as' c.args.place ∙ ap (λ (o : Option (Arc CommandAnswer Global)). option_map f o) (slice_get_past as' c.args.place past)))
