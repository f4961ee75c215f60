-- How a key is reconciled, and given back.
use Rattle.std.specs.Prelude.{◌≡◌, ℕ, List, [], ◌∷◌, ◌++◌, map}
use Rattle.spec_server.specs.Snapshots.{Snapshot}
use Rattle.object_keys.specs.declared.per_kind.PerKind.{PerKind}
use Rattle.informer.specs.Looked.{AreKnown}
use Rattle.informer.specs.declared.listers.Lister.{Lister}
use Rattle.keyed_board.specs.Steps.{Step, tick, finish}
use Rattle.keyed_board.specs.declared.outcome.Outcome.{Outcome}
use Rattle.shared_keyed_board.specs.Calls.{Sight}

-- meanwhile a pass let time pass at the board, and did nothing else there
abbrev pub OnlyTicks : {N : Type 0} → Sight N → Sight N → Type 0
OnlyTicks v w = (moments : List ℕ) × (w.made ≡ v.made ++ map tick moments)

-- it let time pass, and then made this step
abbrev pub Makes : {N : Type 0} → Step N → Sight N → Sight N → Type 0
Makes e v w = (moments : List ℕ) × (w.made ≡ v.made ++ (map tick moments ++ e ∷ []))

-- the reconcile of a key ended so, by the maps that were published when the listers looked last
abbrev pub EndsAsShown : {K : Type 0} → (K → PerKind Snapshot → Outcome → Type 0) → K → PerKind Lister → Outcome → Type 0
EndsAsShown ends key ls outcome = (shown : PerKind Snapshot) × AreKnown ls shown × ends key shown outcome

-- a key was reconciled, and then given back with how that ended
abbrev pub Reconciles : {K N : Type 0} → (K → PerKind Snapshot → Outcome → Type 0) → (K → N) → K → PerKind Lister → Sight N → Sight N → Type 0
Reconciles ends says key ls v w = (outcome : Outcome) × EndsAsShown ends key ls outcome × Makes (finish (says key) outcome) v w
