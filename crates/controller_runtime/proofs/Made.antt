-- What calls at the board add to what a pass has made.
use Rattle.std.proofs.Common.{ℕ, ◌++◌, [], ◌∷◌, map, Some, None, Result, Ok, Err, OnOk, OnErr, sym, ap, ◌∙◌, append_assoc, append-nil}
use Rattle.std.proofs.lemmas.List.{map-append}
use Rattle.std.specs.declared.cmp.Ordering.{Ordering}
use Rattle.keyed_board.specs.Boards.{KeyBoard}
use Rattle.keyed_board.specs.Steps.{Step, tick}
use Rattle.shared_keyed_board.specs.Calls.{Sight, IsCall, Nothing, once_ok}
use Rattle.controller_runtime.specs.Reconciled.{OnlyTicks, Makes}

-- ---- calls

module _ {N : Type 0} (R : N → N → Ordering) where
  -- one that lets time pass, if it can
  pub ticked : {X Y : Type 0} → (r : Result X Y) (now : ℕ) (v w : Sight N) → IsCall R v (λ b. once_ok r (Some (tick now))) Nothing w → OnlyTicks v w
  ticked (Ok x) now v w c = (now ∷ [], ap (λ k. k.made) c.knows)
  ticked (Err e) now v w c = ([], ap (λ k. k.made) c.knows)

  -- one that makes no step
  pub looked : {Says : KeyBoard R → Type 0} → (v w : Sight N) → IsCall R v (λ b. None) Says w → OnlyTicks v w
  looked v w c = ([], ap (λ k. k.made) c.knows)

  -- one that makes a step
  pub made : (e : Step N) (v w : Sight N) → IsCall R v (λ b. Some e) Nothing w → Makes e v w
  made e v w c = ([], ap (λ k. k.made) c.knows)

  -- one that makes a step, if it can
  pub made_if : {X Y : Type 0} → (r : Result X Y) (e : Step N) (v w : Sight N) → IsCall R v (λ b. once_ok r (Some e)) Nothing w → OnOk r (Makes e v w)
  made_if (Ok x) e v w c = made e v w c
  made_if (Err f) e v w c = tt

  pub unmade_if : {X Y : Type 0} → (r : Result X Y) (e : Step N) (v w : Sight N) → IsCall R v (λ b. once_ok r (Some e)) Nothing w → OnErr r (OnlyTicks v w)
  unmade_if (Ok x) e v w c = tt
  unmade_if (Err f) e v w c = ([], ap (λ k. k.made) c.knows)

-- ---- one after another

module _ {N : Type 0} where
  pub no_ticks : (v : Sight N) → OnlyTicks v v
  no_ticks v = ([], sym (append-nil v.made))

  pub ticks_on : (u v w : Sight N) → OnlyTicks u v → OnlyTicks v w → OnlyTicks u w
  ticks_on u v w a b =
      let first = map {B = Step N} tick a.0 in
      let then = map {B = Step N} tick b.0 in
      (a.0 ++ b.0, b.1 ∙ ap (λ l. l ++ then) a.1 ∙ append_assoc u.made first then ∙ ap (λ l. u.made ++ l) (sym (map-append tick a.0 b.0)))

  pub makes_on : (e : Step N) (u v w : Sight N) → OnlyTicks u v → Makes e v w → Makes e u w
  makes_on e u v w a b =
      let first = map {B = Step N} tick a.0 in
      let then = map {B = Step N} tick b.0 in
      let last = e ∷ [] in (
        a.0 ++ b.0,
        b.1 ∙ ap (λ l. l ++ (then ++ last)) a.1 ∙ append_assoc u.made first (then ++ last)
            ∙ ap (λ l. u.made ++ l) (sym (append_assoc first then last) ∙ ap (λ l. l ++ last) (sym (map-append tick a.0 b.0))),
      )

  -- so of results
  pub makes_on_ok : {X Y : Type 0} → (r : Result X Y) (e : Step N) (u v w : Sight N) → OnlyTicks u v → OnOk r (Makes e v w) → OnOk r (Makes e u w)
  makes_on_ok (Ok x) e u v w a b = makes_on e u v w a b
  makes_on_ok (Err f) e u v w a b = tt

  pub ticks_on_err : {X Y : Type 0} → (r : Result X Y) (u v w : Sight N) → OnlyTicks u v → OnErr r (OnlyTicks v w) → OnErr r (OnlyTicks u w)
  ticks_on_err (Ok x) u v w a b = tt
  ticks_on_err (Err f) u v w a b = ticks_on u v w a b
