use Rattle.std.specs.Prelude.{◌≡◌, refl, Option, Some, None, is_some, option_map}
use Rattle.std.proofs.Common.{◌∙◌, ap}
use Rattle.spec_client_go.specs.WorkQueues.{handed}
use Rattle.control_desk.proofs.Turns.{calls}
use Rattle.control_desk.proofs.desks.ControlDesk.has_waiting.Goals as goal

some_mapped : {X Y : Type 0} (f : X → Y) (o : Option X) → is_some o ≡ is_some (option_map f o)
some_mapped f None = refl
some_mapped f (Some x) = refl

pub returns-clause-step : goal.returns-clause-step
returns-clause-step g c =
    calls _ _ _ _ _ c.take-held.ensures.taken
    (c.is_some-waits.ensures ∙ (some_mapped _ c.first.result ∙ (ap is_some c.first.ensures ∙ ap (λ s. is_some (handed s.board.work)) (c.get.ensures ∙ c.take-held.ensures.holding.state))))
    c.give_back.ensures.known
