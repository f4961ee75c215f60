-- What calls at the board leave in a pass.
use Rattle.std.proofs.Common.{◌≡◌, ◌++◌, ℕ, List, Option, None, Result, Ok, Err, OnOk, OnErr, ap, ◌∙◌, subst, append_assoc}
use Rattle.std.proofs.lemmas.List.{append-nil}
use Rattle.baton.specs.declared.views.Known.{Known}
use Rattle.spec_api.specs.declared.kinds.Kind.{Kind}
use Rattle.spec_client_go.specs.Boards.{Observation}
use Rattle.spec_client_go.specs.WorkQueues.{WorkKey}
use Rattle.control_desk.specs.Calls.{IsCall, Nothing, once_ok}
use Rattle.control_desk.specs.Steps.{Step, changing, observe}
use Rattle.control_desk.specs.declared.states.WorkState.{WorkState}
use Rattle.manager.specs.Handled.{HasWaited}

-- a call that changes nothing
pub waited : {Says : WorkState → Type 0} → (v w : Known WorkState Step) → IsCall v (λ b. None) Says w → HasWaited v w
waited v w c = ((c.later.0, ap (λ k. k.seen) c.knows ∙ append-nil c.history ∙ c.later.1), ap (λ k. k.made) c.knows ∙ append-nil v.made)

-- and then another one
pub waited_on : (u v w : Known WorkState Step) → HasWaited u v → HasWaited v w → HasWaited u w
waited_on u v w first then = ((first.0.0 ++ then.0.0, then.0.1 ∙ ap (λ s. s ++ then.0.0) first.0.1 ∙ append_assoc u.seen first.0.0 then.0.0), then.1 ∙ first.1)

-- a call that failed
pub waited_at : {X Y : Type 0} {Says : WorkState → Type 0} → (r : Result X Y) (step : WorkState → Option Step) (v w : Known WorkState Step) → IsCall v (λ b. once_ok r (step b)) Says w → OnErr r (HasWaited v w)
waited_at (Ok x) step v w c = tt
waited_at (Err e) step v w c = waited v w c

-- one that notes these observations and keys of what is published, where they are those
pub called_as :
    {X Y : Type 0} → (r : Result X Y) (kind : Kind) (revision : ℕ) (ss ts : List Observation) (ks js : List WorkKey) (v w : Known WorkState Step)
    → ss ≡ ts → ks ≡ js → IsCall v (λ b. once_ok r (changing (observe kind revision ss ks) b)) Nothing w → OnOk r (IsCall v (changing (observe kind revision ts js)) Nothing w)
called_as (Ok x) kind revision ss ts ks js v w seen owed c = subst (λ a. IsCall v (changing (observe kind revision a js)) Nothing w) seen (subst (λ a. IsCall v (changing (observe kind revision ss a)) Nothing w) owed c)
called_as (Err e) kind revision ss ts ks js v w seen owed c = tt
