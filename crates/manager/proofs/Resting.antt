-- How long who lets time pass at a board has nothing to do, by what the board said.
use Rattle.std.proofs.Common.{◌≡◌, ◌-◌, ℕ, Option, None, ap, ◌∙◌}
use Rattle.std.specs.Prelude.{max, min, unwrap_or}
use Rattle.baton.specs.declared.views.Known.{Known}
use Rattle.control_desk.specs.Calls.{IsCall}
use Rattle.control_desk.specs.Steps.{Step}
use Rattle.control_desk.specs.declared.states.WorkState.{WorkState}
use Rattle.work_board.specs.Due.{until_due}
use Rattle.manager.specs.Resting.{rest_before}

-- it is as long as that gives, and not beyond the next look
pub rests :
    (due : Option ℕ) (look rest passed woken : ℕ) (v w : Known WorkState Step) → look ≡ 1000 - (passed - woken) → rest ≡ max (min (unwrap_or due look) look) 1
    → IsCall v (λ s. None) (λ s. due ≡ until_due s.board) w → IsCall v (λ s. None) (λ s. rest ≡ rest_before passed woken s.board) w
rests due look rest passed woken v w until is c = record {
  history = c.history;
  later = c.later;
  made = c.made;
  happened = c.happened;
  says = is ∙ ap (λ l. max (min (unwrap_or due l) l) 1) until ∙ ap (λ d. max (min (unwrap_or d (1000 - (passed - woken))) (1000 - (passed - woken))) 1) c.says;
  knows = c.knows;
}
