-- Where nothing could be looked at, no change is handled.
use Rattle.std.proofs.Common.{◌≡◌, [], true, Option, Some, None, IfSome, is_none, Result, Ok, Err, OnErr, ap, ◌∙◌, sym, append-nil}
use Rattle.baton.specs.declared.views.Known.{Known}
use Rattle.control_desk.specs.Steps.{Step}
use Rattle.control_desk.specs.declared.states.WorkState.{WorkState}
use Rattle.manager.specs.Handled.{HasWaited}

pub still_waited : (v w : Known WorkState Step) → w ≡ v → HasWaited v w
still_waited v w knows = (([], ap (λ k. k.seen) knows ∙ sym (append-nil v.seen)), ap (λ k. k.made) knows)

pub none_looked : {A : Type 0} (o : Option A) (P : A → Type 0) → is_none o ≡ true → IfSome o P
none_looked None P none = tt
none_looked (Some a) P none = cc

pub on_err : {X Y : Type 0} → (r : Result X Y) (P : Type 0) → P → OnErr r P
on_err (Ok x) P p = tt
on_err (Err e) P p = p
