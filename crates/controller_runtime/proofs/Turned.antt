-- A key that was reconciled, and given back with how that ended.
use Rattle.std.proofs.Common.{◌≡◌, Result, Ok, Err, OnOk, sym, subst}
use Rattle.spec_server.specs.Snapshots.{Snapshot}
use Rattle.object_keys.specs.declared.per_kind.PerKind.{PerKind}
use Rattle.informer.specs.declared.listers.Lister.{Lister}
use Rattle.keyed_board.specs.Steps.{finish}
use Rattle.keyed_board.specs.declared.outcome.Outcome.{Outcome}
use Rattle.shared_keyed_board.specs.Calls.{Sight}
use Rattle.controller_runtime.specs.Reconciled.{EndsAsShown, Makes, Reconciles}

module _ {K N : Type 0} (ends : K → PerKind Snapshot → Outcome → Type 0) (says : K → N) where
  pub reconciled : {X Y : Type 0} → (r : Result X Y) (key was : K) (before after : PerKind Lister) (outcome : Outcome) (v w : Sight N)
      → was ≡ key → after ≡ before → EndsAsShown ends was before outcome → OnOk r (Makes (finish (says key) outcome) v w) → OnOk r (Reconciles ends says key after v w)
  reconciled (Ok x) key was before after outcome v w same looked ended made =
      (outcome, subst (λ k. EndsAsShown ends k after outcome) same (subst (λ ls. EndsAsShown ends was ls outcome) (sym looked) ended), made)
  reconciled (Err e) key was before after outcome v w same looked ended made = tt
