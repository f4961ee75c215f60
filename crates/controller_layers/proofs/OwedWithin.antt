-- The keys that a change owes, or none.
use Rattle.std.proofs.Common.{◌≡◌, ◌⊎◌, inl, inr, List, [], Bool, true, false}
use Rattle.spec_api.specs.History.{View}
use Rattle.spec_client_go.specs.Shifts.{Shift}
use Rattle.controller_layers.specs.Within.{is_within, OwesIf, OwesWithin}

module _ {K : Type 0} (owes : Shift → List K → Type 0) (s : Shift) (keys : List K) where
  either : (b : Bool) → OwesIf b owes s keys → (keys ≡ []) ⊎ owes s keys
  either true h = inr h
  either false h = inl h

  pub owed_within : (vs : List View) → OwesWithin vs owes s keys → (keys ≡ []) ⊎ owes s keys
  owed_within vs h = either (is_within vs s) h
