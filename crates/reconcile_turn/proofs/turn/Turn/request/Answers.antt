use Rattle.std.proofs.Common.{◌∙◌, ℕ, List, Option, Some, option_map, sym, ap}
use Rattle.std.specs.Global.{Global}
use Rattle.std.specs.declared.sync.Arc.{Arc}
use Rattle.spec_client_go.specs.Commands as commands
use Rattle.spec_api.specs.ObjectRequests as verbs
use Rattle.spec_sim.specs.Managers.{requested}
use Rattle.spec_sim.specs.NextSteps.{NextStep}
use Rattle.reconcile_types.specs.Commands.{command_of}
use Rattle.reconcile_turn.specs.Answers.{answers_of, last_version}
use Rattle.reconcile_turn.specs.Seen.{command_issued}
use Rattle.reconcile_turn.specs.declared.answers.CommandAnswer.{CommandAnswer}
use Rattle.reconcile_turn.proofs.Turning.{version_now}
use Rattle.reconcile_turn.proofs.turn.Turn.request.Goals as goal

pub returns-in_ok-request-in-Issue : goal.returns-in_ok-request-in-Issue
returns-in_ok-request-in-Issue c =
    let t = c.args.self.now in
    let x = command_of c.in-Issue.command.now in
    ap (λ (q : verbs.Request). Some q) (
    c.in_ok-request-in-Issue.ensures ∙ ap (λ (as' : List (Arc CommandAnswer Global)). commands.request_of (last_version (answers_of as')) x) c.as_slice.ensures.value
    ∙ ap (λ (v : Option (List ℕ)). commands.request_of v x) (sym (version_now c.self.inside t c.self.view_is c.self.invariant))
    )
    ∙ ap (λ (n : NextStep). option_map (requested t) (command_issued n)) (sym c.in-Issue.ensures)
